-- What begin and commit make of the state of a pass and of its account.
use Rattle.std.proofs.Common.{◌≡◌, ℕ, ◌+◌, ◌<◌, List, [], ◌∷◌, ◌++◌, length, refl, sym, ◌∙◌, ap, subst, arith}
use Rattle.std.specs.Prelude.{true, false, ◌==◌, Option, Some, None, Ok}
use mathlib.Core.List.{IsPrefix}
use Rattle.graph_model.specs.declared.journal.Begun.{Begun}
use Rattle.graph_model.specs.declared.journal.Commit.{Commit}
use Rattle.graph_model.specs.declared.write.Write.{Write}
use Rattle.graph_model.specs.declared.row.Key.{Key}
use Rattle.graph_model.specs.AccountSteps.{BeginsBy, CommitsBy}
use Rattle.graph_model.proofs.PlaceLemmas.{get_end}
use Rattle.seat_views.proofs.NumberLemmas.{eq_of}
use Rattle.txn_manager.specs.declared.config.Config.{Config}
use Rattle.store_rule.specs.StoreRelation.AccountLaws.{EndsWith}
use Rattle.store_rule.specs.StoreRelationDeclared.stage.Stage.TheVariants.{Open}
use Rattle.store_rule.specs.StoreRelation.Keys.{changed_keys}
use Rattle.store_rule.specs.StoreRelation.Passes.{PassState, account_of, is_active, made_of, name_at, number_of}
use Rattle.store_rule.specs.StoreRelation.Shared.{entry_of}
use Rattle.store_rule.specs.StoreRelation.Steps.{begun, committed, committing, ended, with_entry}
use Rattle.store_rule.proofs.StoreRelation.AccountLemmas.{account_begins, account_commits, account_commits_none}
use Rattle.store_rule.proofs.StoreRelation.ListLemmas.{prefix_all, prefix_trans}
use Rattle.store_rule.proofs.StoreRelation.MadeLemmas.{made_active, made_ended}
use Rattle.store_rule.specs.RuleModel.Sight.{PinState}
use Rattle.pass_steps.specs.Passes.{HasEnded, HasNoTxn, HasOpenTxn}
use Rattle.pass_steps.specs.Txns.{Commits, HasCommitted, Opens}

-- ---- begin

module _ (st st' : PassState) (start : ℕ) (opens : Opens st start st') where
  -- the transaction is open
  pub opens_txn : (x x' : PinState) → HasNoTxn st x → x'.announced ≡ false → HasOpenTxn st' x'
  opens_txn x x' idle pinned = subst (λ (u : PassState). HasOpenTxn u x') (sym opens.is) (record {
    stage = refl;
    laid = idle.ended.laid ∙ sym idle.ended.own;
    started = omega arith;
    stamped = idle.stamped;
    pinned = pinned;
  })

  -- and no reader is out
  pub opens_alone : (x : PinState) → HasNoTxn st x → st'.readers_out ≡ 0
  opens_alone x idle = ap (λ (u : PassState). u.readers_out) opens.is ∙ idle.ended.alone

  pub opens_account : (z : Config) (p : ℕ) (x : PinState) (answer : Begun) → HasNoTxn st x
      → number_of st < z.txns_per_pass → answer.by ≡ name_at p st' → answer.start ≡ start
      → BeginsBy (account_of z p st) (Ok answer) (account_of z p st')
  opens_account z p x answer idle more by at =
      let j = opens.journal in
      let law = account_begins z p st j idle.ended.stage idle.ended.own opens.front more in
      let name : answer.by ≡ name_at p (begun st j) = by ∙ ap (name_at p) opens.is in
      let clock : answer.start ≡ length j.commits = at ∙ opens.start_is in
      subst (λ (u : Begun × PassState). BeginsBy (account_of z p st) (Ok u.0) (account_of z p u.1))
      (λ i. (record { by = sym name i; start = sym clock i }, sym opens.is i)) law

-- ---- commit

-- the transaction has ended with this stamp or none
ends_with : (stamp : Option ℕ) (st : PassState) (seen : List Commit) (keys : List Key) → st.stage ≡ Open
    → IsPrefix st.seen seen → EndsWith stamp st (record (ended st stamp) { seen = seen; unstamped = keys })
ends_with stamp st seen keys opened front = record {
  opened = opened;
  idle = refl;
  past = refl;
  own = refl;
  seen = front;
  sighted = refl;
  filled = refl;
}

module _ (z : Config) (p : ℕ) (st st' : PassState) (stamp : ℕ) (c : Commits z p st stamp st') where
  pub commits_ended : st.readers_out ≡ 0 → HasEnded st'
  commits_ended alone = subst HasEnded (sym c.is) (record { stage = refl; own = refl; laid = refl; alone = alone })

  pub commits_account : st.stage ≡ Open → 0 < length st.own
      → CommitsBy (account_of z p st) (Some stamp) (account_of z p st')
  commits_account opened wrote =
      let j = c.journal in
      let seen : List Commit = j.commits ++ entry_of j p st ∷ [] in
      let keys = changed_keys z.kind st.own in
      let front : IsPrefix st.seen seen = prefix_trans st.seen j.commits seen c.front (entry_of j p st ∷ [], refl) in
      subst (λ (u : ℕ × PassState). CommitsBy (account_of z p st) (Some u.0) (account_of z p u.1))
      (λ i. (sym c.stamped i, sym c.is i))
      (account_commits z p st j (committed (committing st) (with_entry j p st) keys) wrote c.front
      (ends_with (Some (length j.commits + 1)) st seen keys opened front) refl)

  -- what was seen has the commit
  pub commits_there : st.stage ≡ Open → HasCommitted p st' stamp
  commits_there opened =
      let j = c.journal in
      let entry = entry_of j p st in
      let keys = changed_keys z.kind st.own in
      let made : made_of (committed (committing st) (with_entry j p st) keys) ≡ made_of st
      = made_ended (committing st) (Some (length j.commits + 1)) refl
      ∙ sym (made_active st (ap is_active opened)) in
      subst (λ (u : ℕ × PassState). HasCommitted p u.1 u.0) (λ i. (sym c.stamped i, sym c.is i))
      (record {
        place = length j.commits;
        commit = entry;
        at = get_end j.commits entry;
        by = λ i. record { job = p; number = length (sym made i) };
        stamped = refl;
      })

-- without writes
pub none_ended : (st st' : PassState) → st' ≡ ended st None → st.readers_out ≡ 0 → HasEnded st'
none_ended st st' is alone = subst HasEnded (sym is) (record { stage = refl; own = refl; laid = refl; alone = alone })

pub none_account : (z : Config) (p : ℕ) (st st' : PassState) → st' ≡ ended st None → st.stage ≡ Open → st.own ≡ []
    → CommitsBy (account_of z p st) None (account_of z p st')
none_account z p st st' is opened none =
    subst (λ (u : PassState). CommitsBy (account_of z p st) None (account_of z p u)) (sym is)
    (account_commits_none z p st (ended st None) none
    (ends_with None st st.seen st.unstamped opened (prefix_all st.seen)))

-- ---- lists of writes

pub no_writes : (xs : List Write) → (length xs == 0) ≡ true → xs ≡ []
no_writes [] e = refl
no_writes (x ∷ xs) e = let f : length (x ∷ xs) ≡ 0 = eq_of (length (x ∷ xs)) 0 e in absurd (omega (arith, f))

pub some_writes : (xs : List Write) → (length xs == 0) ≡ false → 0 < length xs
some_writes [] e = cc
some_writes (x ∷ xs) e = omega arith

-- What the steps of a call do to the account of its pass, and that this is valid between calls.
use Rattle.std.proofs.Common.{◌≡◌, ℕ, suc, ◌+◌, ◌<◌, ◌≤◌, List, [], ◌∷◌, ◌++◌, length, refl, sym, ◌∙◌, ap, subst, cond, arith, inl, inr}
use Rattle.std.specs.Prelude.{◌⊎◌, Bool, true, false, nat_le, map, Option, Some, None, slice_get, IfSome, IfNone}
use Rattle.std.specs.List.{filter_map}
use Rattle.std.specs.declared.result.Result.TheVariants.{Ok}
use Rattle.std.proofs.lemmas.Bool.{true≢false}
use Rattle.std.proofs.lemmas.Bool.Decides.{nat_tests}
use Rattle.std.proofs.lemmas.List.{append-nil}
use Rattle.std.proofs.lemmas.List.Elements.{filter_map-append}
use mathlib.Core.List.{IsPrefix}
use mathlib.Core.Logic.{dite}
use native.Mathlib.Decide.{dec_le}
use Rattle.graph_model.specs.declared.write.Write.{Write}
use Rattle.graph_model.specs.declared.row.Key.{Key}
use Rattle.graph_model.specs.declared.journal.TxnName.{TxnName}
use Rattle.graph_model.specs.declared.journal.Commit.{Commit}
use Rattle.graph_model.specs.declared.refusal.Cause.TheVariants.{Holder}
use Rattle.graph_model.specs.Account.{IsOpenTxn, IsValid}
use Rattle.graph_model.specs.AccountSteps as steps
use Rattle.graph_model.specs.AccountSteps.{GoesOn, ReadsBy, BeginsBy, WritesBy, HasCommit, CommitsBy, AbortsBy, last_with, with_cause}
use Rattle.graph_model.specs.History.{view}
use Rattle.graph_model.specs.Legal.{IsLegal}
use Rattle.graph_model.specs.Refused.{refused, AllAllowed}
use Rattle.graph_model.proofs.LegalLemmas.{legal_prefix}
use Rattle.graph_model.proofs.PlaceLemmas.{some_eq, get_end}
use Rattle.txn_manager.specs.declared.config.Config.{Config}
use Rattle.store_model.specs.Stamped.{StampedVersions}
use Rattle.store_relation.specs.declared.stage.Stage.{Stage}
use Rattle.store_relation.specs.declared.stage.Stage.TheVariants.{Idle, Open}
use Rattle.store_relation.specs.AccountLaws.{EndsWith}
use Rattle.store_relation.specs.Passes.{EndedTxn, PassState, account_of, ended_writes, is_active, made_of, may_commit, name_at, name_of, now_of, number_of, stamps_of_pass, start_of}
use Rattle.store_relation.specs.Shared.{IsShared, JournalState, entry_of, longer_of}
use Rattle.store_relation.specs.Steps.{begun, refreshed, sighting, with_sighting, written_by}
use Rattle.store_relation.proofs.ListLemmas.{prefix_all, prefix_length, prefix_either}
use Rattle.store_relation.proofs.MadeLemmas.{made_active, made_idle, made_ended, number_active, number_idle}
use Rattle.store_relation.proofs.SharedLemmas.{laid_by, same_graph, runs}

plus_one : (n : ℕ) → suc n ≡ n + 1
plus_one n = omega arith

-- the account's list of writes has one more at its end
last_is : (xs : List (List Write)) (ws : List Write) (w : Write)
    → last_with (xs ++ ws ∷ []) w ≡ xs ++ (ws ++ w ∷ []) ∷ []
last_is [] ws w = refl
last_is (x ∷ []) ws w = refl
last_is (x ∷ y ∷ xs) ws w = ap (λ l. x ∷ l) (last_is (y ∷ xs) ws w)

-- one that ends with a stamp has answered one more, and one that ends without has answered none
stamps_more : (past : List EndedTxn) (ws : List Write) (stamp : ℕ)
    → filter_map (λ t. t.stamp) (past ++ record { writes = ws; stamp = Some stamp } ∷ [])
    ≡ filter_map (λ t. t.stamp) past ++ stamp ∷ []
stamps_more past ws stamp =
    filter_map-append (λ (t : EndedTxn). t.stamp) past (record { writes = ws; stamp = Some stamp } ∷ [])

stamps_same : (past : List EndedTxn) (ws : List Write)
    → filter_map (λ t. t.stamp) (past ++ record { writes = ws; stamp = None } ∷ []) ≡ filter_map (λ t. t.stamp)
    past
stamps_same past ws =
    filter_map-append (λ (t : EndedTxn). t.stamp) past (record { writes = ws; stamp = None } ∷ [])
    ∙ append-nil (filter_map (λ (t : EndedTxn). t.stamp) past)

module _ (z : Config) (p : ℕ) (st : PassState) where
  start_is : (start : ℕ) → start_of st ≡ Some start → st.start ≡ start
  start_is start e = by_test (is_active st.stage) e
    where
      by_test : (t : Bool) → cond t (Some st.start) None ≡ Some start → st.start ≡ start
      by_test true h = some_eq st.start start h
      by_test false h = cc

  -- BEGIN: its start is the clock that was loaded, and it has seen so many commits
  pub account_begins : (j : JournalState) → st.stage ≡ Idle → st.own ≡ [] → IsPrefix st.seen j.commits
      → number_of st < z.txns_per_pass
      → BeginsBy (account_of z p st) (Ok (record { by = name_at p (begun st j); start = length j.commits }))
      (account_of z p (begun st j))
  account_begins j is none front more =
      let off : is_active st.stage ≡ false = ap is_active is in
      let was : made_of st ≡ ended_writes st = made_idle st off in
      let now : number_of (begun st j) ≡ number_of st + 1
      = number_active (begun st j) refl ∙ plus_one (length st.past)
      ∙ ap (λ n. n + 1) (sym (number_idle st off)) in
      let made : made_of (begun st j) ≡ made_of st ++ [] ∷ [] = (λ k. sym was k ++ none k ∷ []) in
      record {
        room = more;
        by = ap (λ n. record { job = p; number = n }) now;
        from = prefix_length st.seen j.commits front;
        until = omega arith;
        opened = record {
          seen = (front.0, sym front.1);
          others = λ i. record {
            job = p;
            kind = z.kind;
            leaves = z.leaves;
            seen = j.commits;
            made = made i;
            sighted = st.sighted;
            start = Some (length j.commits);
            own = none i;
            filled = st.filled;
            begun = now i;
            allowed = z.txns_per_pass;
            stamps = stamps_of_pass st;
          };
        };
      }

  -- WRITE
  pub account_writes : (w : Write) → st.stage ≡ Open → refused (view z.kind st.seen st.start st.own) w ≡ None
      → WritesBy (account_of z p st) w (Ok tt) (account_of z p (written_by st w))
  account_writes w is allowed start at =
      let active : is_active st.stage ≡ true = ap is_active is in
      let same : st.start ≡ start = start_is start at in
      let was : made_of st ≡ ended_writes st ++ st.own ∷ [] = made_active st active in
      let now : made_of (written_by st w) ≡ ended_writes st ++ (st.own ++ w ∷ []) ∷ []
      = made_active (written_by st w) active in
      let made : made_of (written_by st w) ≡ last_with (made_of st) w
      = now ∙ sym (last_is (ended_writes st) st.own w) ∙ ap (λ m. last_with m w) (sym was) in
      let number : number_of (written_by st w) ≡ number_of st
      = number_active (written_by st w) active ∙ sym (number_active st active) in (
        ap (λ n. refused (view z.kind st.seen n st.own) w) (sym same) ∙ allowed,
        record {
          seen = ([], sym (append-nil st.seen));
          others = λ i. record {
            job = p;
            kind = z.kind;
            leaves = z.leaves;
            seen = st.seen;
            made = made i;
            sighted = st.sighted;
            start = start_of st;
            own = st.own ++ w ∷ [];
            filled = st.filled;
            begun = number i;
            allowed = z.txns_per_pass;
            stamps = stamps_of_pass st;
          };
        },
      )

  -- END: the transaction's writes are the last of those that have ended, and it has this stamp or none
  module _ (stamp : Option ℕ) (st' : PassState) (ends : EndsWith stamp st st') where
    made_then : made_of st' ≡ made_of st
    made_then =
        made_idle st' (ap is_active ends.idle) ∙ ap (map (λ (t : EndedTxn). t.writes)) ends.past
        ∙ made_ended st stamp (ap is_active ends.opened)

    account_ends : (changed : List ℕ) → stamps_of_pass st' ≡ changed
        → GoesOn (account_of z p st) (record (steps.ended (account_of z p st)) { stamps = changed })
        (account_of z p st')
    account_ends changed stamped =
        let closed : start_of st' ≡ None = ap (λ (g : Stage). cond (is_active g) (Some st'.start) None)
        ends.idle in
        record {
          seen = (ends.seen.0, sym ends.seen.1);
          others = λ i. record {
            job = p;
            kind = z.kind;
            leaves = z.leaves;
            seen = st'.seen;
            made = made_then i;
            sighted = ends.sighted i;
            start = closed i;
            own = ends.own i;
            filled = ends.filled i;
            begun = length (made_then i);
            allowed = z.txns_per_pass;
            stamps = stamped i;
          };
        }

  -- without a stamp
  ends_without : (st' : PassState) → EndsWith None st st'
      → GoesOn (account_of z p st) (steps.ended (account_of z p st)) (account_of z p st')
  ends_without st' ends =
      account_ends None st' ends (stamps_of_pass st)
      (ap (filter_map (λ (t : EndedTxn). t.stamp)) ends.past ∙ stamps_same st.past st.own)

  -- COMMIT: the stamp answered is its commit's, which it has seen
  pub account_commits : (j : JournalState) (st' : PassState) → 0 < length st.own → IsPrefix st.seen j.commits
      → EndsWith (Some (length j.commits + 1)) st st' → st'.seen ≡ j.commits ++ entry_of j p st ∷ []
      → CommitsBy (account_of z p st) (Some (length j.commits + 1)) (account_of z p st')
  account_commits j st' wrote front ends seen =
      let c : Commit = entry_of j p st in (
        λ start at. record {
          wrote = wrote;
          place = length j.commits;
          commit = c;
          at = ap (λ l. slice_get l (length j.commits)) seen ∙ get_end j.commits c;
          stamped = refl;
          begun = start_is start at;
          by = refl;
          writes = refl;
        },
        account_ends (Some (length j.commits + 1)) st' ends (stamps_of_pass st ++ (length j.commits + 1) ∷ [])
            (ap (filter_map (λ (t : EndedTxn). t.stamp)) ends.past
            ∙ stamps_more st.past st.own (length j.commits + 1)),
      )

  -- ABORT, and a commit without writes
  pub account_aborts : (st' : PassState) → EndsWith None st st'
      → AbortsBy (account_of z p st) (account_of z p st')
  account_aborts = ends_without

  pub account_commits_none : (st' : PassState) → st.own ≡ [] → EndsWith None st st'
      → CommitsBy (account_of z p st) None (account_of z p st')
  account_commits_none st' none ends = (none, ends_without st' ends)

  -- MEET, and each call that has seen more
  pub account_sees : (seen : List Commit) → IsPrefix st.seen seen
      → ReadsBy (account_of z p st) (account_of z p (refreshed st seen))
  account_sees seen front = record { seen = (front.0, sym front.1); others = refl }

  -- a holder is noted
  pub account_sights : (w : Write) (by : TxnName) (seen : List Commit) → IsPrefix st.seen seen
      → GoesOn (account_of z p st) (with_cause (account_of z p st) st.start w (Holder by))
      (account_of z p (refreshed (with_sighting st (sighting by w st.start)) seen))
  account_sights w by seen front = record { seen = (front.0, sym front.1); others = refl }

-- ---- meet

-- MEET: what one has seen and what another has told are prefixes of one journal, and so is the longer of them
pub meets_told : (seen told commits : List Commit) → IsPrefix seen commits → IsPrefix told commits
    → IsPrefix seen (longer_of seen told) × IsPrefix told (longer_of seen told)
    × IsPrefix (longer_of seen told) commits
meets_told seen told commits a b = by_test (nat_le (length seen) (length told)) refl
  where
    by_test : (t : Bool) → nat_le (length seen) (length told) ≡ t
        → IsPrefix seen (cond t told seen) × IsPrefix told (cond t told seen)
        × IsPrefix (cond t told seen) commits
    by_test true e =
        let le : length seen ≤ length told = grind (arith, nat_tests) in
        (prefix_either seen told commits a b le, prefix_all told, b)
    by_test false e =
        let le : length told ≤ length seen = dite (dec_le (length told) (length seen)) (λ l. l)
        (λ n. let up : nat_le (length seen) (length told) ≡ true = grind (arith, nat_tests) in
        absurd (true≢false (sym up ∙ e))) in
        (prefix_all seen, prefix_either told seen commits b a le, a)

-- ---- between calls

module _ {z : Config} {word : ℕ → ℕ} {pass : ℕ → PassState} {j : JournalState} {rows : Key → StampedVersions}
    {clock : ℕ} (s : IsShared z word pass j rows clock) (p : ℕ) where
  -- VALID: the account of a pass that is idle, or has its transaction open
  pub account_valid : ((pass p).stage ≡ Idle) ⊎ ((pass p).stage ≡ Open) → IsValid (account_of z p (pass p))
  account_valid is =
      let h = s.each p in
      let start_at : Stage → Option ℕ = (λ g. cond (is_active g) (Some (pass p).start) None) in
      record {
        legal = legal_prefix z.kind (pass p).seen h.seen.0
            (subst (IsLegal z.kind) (sym h.seen.1) s.store.transactions.legal);
        current = elim is as (λ _. IfSome (start_of (pass p)) (IsOpenTxn (account_of z p (pass p)))) [
          | inl idle ↦ subst (λ o. IfSome o (IsOpenTxn (account_of z p (pass p)))) (sym (ap start_at idle)) tt
          | inr opened ↦
              let t = s.store.transactions.each (name_of pass p) (now_of (pass p))
              (runs s p (ap may_commit opened)) in
              subst (λ o. IfSome o (IsOpenTxn (account_of z p (pass p)))) (sym (ap start_at opened)) (record {
                seen = h.started;
                allowed = subst (λ g. AllAllowed z.kind g (pass p).own)
                    (sym (same_graph s p (pass p).seen (pass p).start h.seen h.started)) t.allowed;
                within = t.within;
                last = (ended_writes (pass p), made_active (pass p) (ap is_active opened));
              })
        ];
        idle = elim is as (λ _. IfNone (start_of (pass p)) ((pass p).own ≡ [])) [
          | inl idle ↦ subst (λ o. IfNone o ((pass p).own ≡ [])) (sym (ap start_at idle))
              (laid_by s p Idle idle).1
          | inr opened ↦ subst (λ o. IfNone o ((pass p).own ≡ [])) (sym (ap start_at opened)) tt
        ];
        counted = refl;
        room = s.counted.begun p;
      }

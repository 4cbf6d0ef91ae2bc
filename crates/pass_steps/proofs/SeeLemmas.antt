-- What is seen of the journal, call after call.
use Rattle.std.proofs.Common.{◌≡◌, ℕ, ◌+◌, ◌-◌, ◌<◌, ◌≤◌, List, length, refl, sym, ◌∙◌, ap, subst, arith}
use Rattle.std.specs.Prelude.{Contains, Some, slice_get}
use mathlib.Core.List.{IsPrefix}
use Rattle.graph_model.specs.declared.journal.Commit.{Commit}
use Rattle.graph_model.specs.declared.write.Write.{Write}
use Rattle.graph_model.specs.Conflict.{later}
use Rattle.txn_manager.specs.declared.config.Config.{Config}
use Rattle.store_rule.specs.StoreRelation.Passes.{PassState}
use Rattle.store_rule.specs.StoreRelation.Steps.{meeting, refreshed}
use Rattle.store_rule.proofs.StoreRelation.ListLemmas.{prefix_all, prefix_length, prefix_trans}
use Rattle.store_rule.specs.RuleModel.Sight.{PinState}
use Rattle.pass_steps.specs.Passes.{HasOpenTxn}
use Rattle.pass_steps.specs.Txns.{Refreshes}

-- more of the journal was seen, and nothing else has changed
pub record SeesMore (old new : PassState) : Type 0 where
  pub commits : List Commit
  pub front : IsPrefix old.seen commits
  pub is : new ≡ refreshed old commits

pub sees_nothing : (st : PassState) → SeesMore st st
sees_nothing st = record { commits = st.seen; front = prefix_all st.seen; is = refl }

pub sees_on : (z : Config) (a b c : PassState) (clock : ℕ) → SeesMore a b → Refreshes z b clock c → SeesMore a c
sees_on z a b c clock more r = record {
  commits = r.commits;
  front = prefix_trans a.seen more.commits r.commits more.front
      (subst (λ (u : PassState). IsPrefix u.seen r.commits) more.is r.front);
  is = r.is ∙ ap (λ u. refreshed u r.commits) more.is;
}

-- the last of them has seen as far as the clock
pub refreshes_on : (z : Config) (a b c : PassState) (clock : ℕ) → SeesMore a b → Refreshes z b clock c
    → Refreshes z a (length c.seen) c
refreshes_on z a b c clock more r =
    let clock_is : length c.seen ≡ length r.commits = ap (λ (u : PassState). length u.seen) r.is in
    record {
      commits = r.commits;
      front = prefix_trans a.seen more.commits r.commits more.front
          (subst (λ (u : PassState). IsPrefix u.seen r.commits) more.is r.front);
      is = r.is ∙ ap (λ u. refreshed u r.commits) more.is;
      clock_is = clock_is;
      met = λ i m at start up low. r.met i m
          (ap (λ (u : PassState). slice_get u.met i) more.is ∙ at) start up
          (let is = r.clock_is in omega (arith, low, clock_is, is));
    }

-- a transaction stays open
pub still_open : (a b : PassState) (x : PinState) → HasOpenTxn a x → SeesMore a b → HasOpenTxn b x
still_open a b x opened more =
    let started = opened.started in
    let long = prefix_length a.seen more.commits more.front in
    subst (λ (u : PassState). HasOpenTxn u x) (sym more.is) (record {
      stage = opened.stage;
      laid = opened.laid;
      started = omega (arith, started, long);
      stamped = opened.stamped;
      pinned = opened.pinned;
    })

-- what was met behind the start is later, once the clock is there
pub met_is_later : (z : Config) (a b c : PassState) (clock : ℕ) (w : Write) (stamp : ℕ) → SeesMore a b
    → Refreshes z b clock c → slice_get a.met 0 ≡ Some (meeting w (stamp - 1)) → a.start < stamp → stamp ≤ clock
    → Contains (later z.kind c.seen a.start w) stamp
met_is_later z a b c clock w stamp more r at behind there =
    let last : stamp - 1 + 1 ≡ stamp = omega (arith, behind) in
    let found = r.met 0 (meeting w (stamp - 1)) (ap (λ (u : PassState). slice_get u.met 0) more.is ∙ at) a.start
    (omega (arith, behind)) (omega (arith, behind, there)) in
    subst (λ l. Contains (later z.kind l a.start w) stamp) (ap (λ (u : PassState). u.seen) (sym r.is))
    (subst (Contains (later z.kind r.commits a.start w)) last found)

-- The passes of a store that has a load: pass 0 has made it, and the others have begun nothing.
use Rattle.std.proofs.Common.{◌≡◌, ℕ, zero, suc, ◌+◌, ◌<◌, ◌≤◌, List, [], ◌∷◌, ◌++◌, length, refl, sym, ◌∙◌, ap, subst, arith, length-append}
use Rattle.std.proofs.lemmas.Bool.Decides.{nat_tests}
use Rattle.std.specs.Prelude.{◌==◌, false, cond, Some, None, slice_get}
use mathlib.Core.List.{IsPrefix}
use Rattle.graph_model.specs.declared.journal.Commit.{Commit}
use Rattle.graph_model.specs.declared.write.Write.{Write}
use Rattle.graph_model.specs.Account.{Account, IsValid}
use Rattle.graph_model.specs.AccountSteps.{ReadsBy}
use Rattle.run_model.specs.Inputs.{Inputs}
use Rattle.run_model.specs.Run.{load_stamp}
use Rattle.side_runs.specs.ByAccount.{IsUnbegun}
use Rattle.side_runs.specs.SideBySide.{made_by_load}
use Rattle.shared_runs.specs.Closing.{HasLoaded}
use Rattle.txn_manager.specs.declared.config.Config.{Config}
use Rattle.rebalance_service.specs.StoreRelation.Loads.{load_commit}
use Rattle.rebalance_service.specs.StoreRelation.Passes.{PassState, fresh_pass}
use Rattle.rebalance_service.specs.StoreRelation.Passes.{account_of as state_account}
use Rattle.rebalance_service.specs.StoreRuleDeclared.store.Store.{Store}
use Rattle.rebalance_service.specs.PassSteps.Passes.{state_of}
use Rattle.rebalance_service.specs.SharedStoreDeclared.pass.Pass.{Pass}
use Rattle.rebalance_service.specs.SharedStore.Ends.{AreIdle}
use Rattle.rebalance_service.specs.SharedStore.Loading.{AreLoaded, first_state}
use Rattle.rebalance_service.specs.SharedStore.Passes.{IsIdle, account_of}
use Rattle.threaded_run.specs.Running.{CanRun}
use Rattle.threaded_run.specs.Seats.{HasMet}

-- ---- pass 0

load_made : (z : Config) (load : List Write) → HasLoaded load (state_account z 0 (first_state load 0))
load_made z [] = record { made = refl; seen = omega arith }
load_made z (w ∷ ws) = record { made = refl; seen = omega arith }

-- what it has done stays done
pub loaded_on : (load : List Write) (old new : Account) → HasLoaded load old → ReadsBy old new → HasLoaded load new
loaded_on load old new has read =
    let long : length new.seen ≡ length old.seen + length read.seen.0 = ap length read.seen.1 ∙ length-append old.seen read.seen.0 in
    let seen = has.seen in
    record {
      made = ap (λ (a : Account). a.made) read.others ∙ has.made;
      seen = omega (arith, long, seen);
    }

-- ---- the others

pub record IsUnused (store : Store) (number : ℕ) (pass : Pass) : Type 0 where
  pub idle : IsIdle store pass
  pub number_is : pass.seats.number ≡ number
  pub state : state_of pass.seats ≡ fresh_pass

abbrev pub AreUnused : Store → ℕ → List Pass → Type 0
AreUnused store number [] = Unit {0}
AreUnused store number (pass ∷ passes) = IsUnused store number pass × AreUnused store (number + 1) passes

pub fresh_behind : (load : List Write) (p : ℕ) → first_state load (suc p) ≡ fresh_pass
fresh_behind [] p = refl
fresh_behind (w ∷ ws) p =
    let apart : (suc p == 0) ≡ false = grind (arith, nat_tests) in
    λ i. record fresh_pass {
      past = cond (apart i) (record { writes = w ∷ ws; stamp = Some 1 } ∷ []) [];
      seen = cond (apart i) (load_commit (w ∷ ws) ∷ []) [];
    }

pub unused_from : (store : Store) (number : ℕ) (passes : List Pass)
    → ((k : ℕ) (pass : Pass) → slice_get passes k ≡ Some pass → IsUnused store (number + k) pass) → AreUnused store number passes
unused_from store number [] each = tt
unused_from store number (pass ∷ passes) each = (
  subst (λ n. IsUnused store n pass) (omega arith) (each 0 pass refl),
  unused_from store (number + 1) passes (λ k other at. subst (λ n. IsUnused store n other) (omega arith) (each (suc k) other at)),
)

pub unused_front : (store : Store) (number : ℕ) (xs ys : List Pass) → AreUnused store number (xs ++ ys) → AreUnused store number xs
unused_front store number [] ys unused = tt
unused_front store number (x ∷ xs) ys unused = (unused.0, unused_front store (number + 1) xs ys unused.1)

module _ (store : Store) (load : List Write) (loader : Pass) (passes : List Pass) (are : AreLoaded load store (loader ∷ passes)) where
  pub loader_idle : IsIdle store loader
  loader_idle = are.idle.idle 0 loader refl

  pub loader_number : loader.seats.number ≡ 0
  loader_number = are.idle.numbers 0 loader refl

  pub loader_loaded : HasLoaded load (account_of store loader)
  loader_loaded =
      subst (λ (u : ℕ × PassState). HasLoaded load (state_account store.accounts.config u.0 u.1))
      (λ i. (sym (are.idle.numbers 0 loader refl) i, sym (are.state 0 loader refl) i)) (load_made store.accounts.config load)

  pub others_unused : AreUnused store 1 passes
  others_unused = unused_from store 1 passes (λ k pass at. record {
    idle = are.idle.idle (suc k) pass at;
    number_is = are.idle.numbers (suc k) pass at ∙ omega arith;
    state = are.state (suc k) pass at ∙ fresh_behind load k;
  })

-- a pass that has met one that has the load has seen it, and has begun nothing
pub unbegun_met : (inputs : Inputs) (store : Store) → CanRun inputs store.accounts.config → (seen : List Commit) → load_stamp inputs.load ≤ length seen
    → (number : ℕ) (old new : Pass) → IsUnused store number old → HasMet store seen old new → IsUnbegun inputs.kind inputs.load number (account_of store new)
unbegun_met inputs store can seen enough number old new unused met =
    let same : account_of store old ≡ state_account store.accounts.config old.seats.number fresh_pass = ap (state_account store.accounts.config old.seats.number) unused.state in
    let others = met.reads.others in
    let long : length (account_of store new).seen ≡ length seen + length met.met.0 = ap length (sym met.met.1) ∙ length-append seen met.met.0 in
    record {
      job_is = ap (λ (a : Account). a.job) others ∙ unused.number_is;
      kind_is = can.kind;
      made = ap (λ (a : Account). a.made) others ∙ ap (λ (a : Account). a.made) same;
      begun = ap (λ (a : Account). a.begun) others ∙ ap (λ (a : Account). a.begun) same;
      closed = ap (λ (a : Account). a.start) others ∙ ap (λ (a : Account). a.start) same;
      stamps = ap (λ (a : Account). a.stamps) others ∙ ap (λ (a : Account). a.stamps) same;
      loaded = omega (arith, long, enough);
    }

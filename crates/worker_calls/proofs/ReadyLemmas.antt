-- A pass between two calls of its worker: its account tells whether it has a transaction.
use Rattle.std.proofs.Common.{◌≡◌, inl, inr, ℕ, sym, ◌∙◌, ap, subst, cond}
use Rattle.std.specs.Prelude.{Option, Some, None, IsSome}
use Rattle.reader_parts.specs.StoreRelationDeclared.stage.Stage.{Stage}
use Rattle.reader_parts.specs.StoreRelation.Passes.{is_active}
use Rattle.reader_parts.specs.StoreRuleDeclared.store.Store.{Store}
use Rattle.reader_parts.specs.PassSteps.Passes.{state_of}
use Rattle.reader_parts.specs.SharedStoreDeclared.pass.Pass.{Pass}
use Rattle.reader_parts.specs.SharedStore.Passes.{IsIdle, IsOpen, account_of}
use Rattle.worker_calls.specs.Ready.{IsReady}

-- an open transaction has its start
pub start_there : (store : Store) (pass : Pass) → IsOpen store pass
    → (account_of store pass).start ≡ Some pass.start
start_there store pass is =
    ap (λ (s : Stage). cond (is_active s) (Some (state_of pass.seats).start) None) is.opened.opened.stage
    ∙ ap Some (sym is.start)

pub start_none : (store : Store) (pass : Pass) → IsIdle store pass → (account_of store pass).start ≡ None
start_none store pass is =
    ap (λ (s : Stage). cond (is_active s) (Some (state_of pass.seats).start) None) is.idle.idle.ended.stage

-- where the account has no start there is none
pub idle_here : (store : Store) (pass : Pass) → IsReady store pass → (account_of store pass).start ≡ None
    → IsIdle store pass
idle_here store pass (inl idle) none = idle
idle_here store pass (inr opened) none = clash (sym (start_there store pass opened) ∙ none)
  where
    clash : ◌≡◌ {A = Option ℕ} (Some pass.start) None → IsIdle store pass
    clash e = cc

-- and where it has one it is open
pub open_here : (store : Store) (pass : Pass) → IsReady store pass → IsSome (account_of store pass).start
    → IsOpen store pass
open_here store pass (inl idle) some = clash (subst IsSome (start_none store pass idle) some)
  where
    clash : IsSome {T = ℕ} None → IsOpen store pass
    clash e = cc
open_here store pass (inr opened) some = opened

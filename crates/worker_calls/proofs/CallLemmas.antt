-- What calls of an open transaction, and of none, leave of a pass that is ready.
use Rattle.std.proofs.Common.{◌≡◌, inl, inr, ℕ, sym, ◌∙◌, subst}
use Rattle.std.specs.Prelude.{Option, Some, None, IsSome, Result, Ok, Err, OnErr, OnOk}
use Rattle.graph_model.specs.AccountSteps.{ReadsBy, view_of}
use Rattle.graph_model.specs.Graph.{Graph}
use Rattle.reader_parts.specs.StoreRuleDeclared.store.Store.{Store}
use Rattle.reader_parts.specs.SharedStoreDeclared.pass.Pass.{Pass}
use Rattle.reader_parts.specs.SharedStore.Passes.{IsIdle, IsOpen, KeepsOpen, account_of, view_in}
use Rattle.worker_calls.specs.Ready.{HasSeenLegal, IsReady}
use Rattle.worker_calls.proofs.PropLemmas.{is_ready}
use Rattle.worker_calls.proofs.ReadyLemmas.{idle_here, open_here, start_there}
use Rattle.worker_calls.proofs.RoomLemmas.{goes_on}

-- ---- before a call

pub open_kept : (store : Store) (pass : Pass) → ∥ IsReady store pass ∥₁ → IsSome (account_of store pass).start
    → IsOpen store pass
open_kept store pass kept some = open_here store pass (is_ready store pass kept) some

pub idle_kept : (store : Store) (pass : Pass) → ∥ IsReady store pass ∥₁ → (account_of store pass).start ≡ None
    → IsIdle store pass
idle_kept store pass kept none = idle_here store pass (is_ready store pass kept) none

-- ---- after it

pub ready_idle : (store : Store) (pass : Pass) → IsIdle store pass → ∥ IsReady store pass ∥₁
ready_idle store pass idle = ∣ inl idle ∣₁

pub ready_open : (store : Store) (pass : Pass) → IsOpen store pass → ∥ IsReady store pass ∥₁
ready_open store pass opened = ∣ inr opened ∣₁

pub legal_idle : (store : Store) (pass : Pass) → IsIdle store pass → HasSeenLegal (account_of store pass)
legal_idle store pass idle = idle.idle.of.legal

pub legal_open : (store : Store) (pass : Pass) → IsOpen store pass → HasSeenLegal (account_of store pass)
legal_open store pass opened = opened.opened.of.legal

pub legal_ready : (store : Store) (pass : Pass) → IsReady store pass → HasSeenLegal (account_of store pass)
legal_ready store pass (inl idle) = legal_idle store pass idle
legal_ready store pass (inr opened) = legal_open store pass opened

-- one or the other, by what was answered
pub ready_either : {T E : Type 0} (r : Result T E) (store : Store) (pass : Pass) → OnOk r (IsOpen store pass)
    → OnErr r (IsIdle store pass) → IsReady store pass
ready_either (Ok x) store pass opened idle = inr opened
ready_either (Err e) store pass opened idle = inl idle

-- ---- what is read

-- the view is that of the open transaction
pub at_start : (store : Store) (pass : Pass) (P : Graph → Type 0) → IsOpen store pass → P (view_in store pass)
    → (start : ℕ) → (account_of store pass).start ≡ Some start → P (view_of (account_of store pass) start)
at_start store pass P opened holds start is =
    subst (λ n. P (view_of (account_of store pass) n)) (same pass.start start (sym (start_there store pass opened) ∙ is))
    holds
  where
    same : (a b : ℕ) → ◌≡◌ {A = Option ℕ} (Some a) (Some b) → a ≡ b
    same a b e = cc

pub reads_on : (store : Store) (old new : Pass) → KeepsOpen store old new
    → ReadsBy (account_of store old) (account_of store new)
reads_on store old new kept = goes_on (account_of store old) (account_of store new) kept.account

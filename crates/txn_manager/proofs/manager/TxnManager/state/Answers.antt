use Rattle.std.proofs.Common.{◌∙◌, sym, ap}
use Rattle.txn_manager.specs.Manager.{Manager, state_of}
use Rattle.txn_manager.proofs.ViewLemmas.{history_at}
use Rattle.txn_manager.proofs.ManagerLemmas.{state-kept, state_past, live_is_open}
use Rattle.txn_manager.proofs.manager.TxnManager.state.Goals as goal

pub returns-in-Some-clause-state : goal.returns-in-Some-clause-state
returns-in-Some-clause-state c =
    let found = rw c.deref.ensures.value at c.in-Some.ensures.lookup in
    let here = history_at _ c.args.by.job c.in-Some.history.now ((found.3).0) found.1 in
    c.state.ensures ∙ sym (ap (λ (m : Manager). state_of m c.args.by) (sym c.self.view_is) ∙ state-kept _ _ _ c.self.invariant c.args.by _ here)

pub returns-in-Some-clause-live : goal.returns-in-Some-clause-live
returns-in-Some-clause-live c = live_is_open _ _ _ c.self.invariant _ c.args.by _ c.self.view_is (returns-in-Some-clause-state c)

pub returns-in-None-clause-state : goal.returns-in-None-clause-state
returns-in-None-clause-state c =
    let found = rw c.deref.ensures.value at c.in-None.ensures.lookup in
    sym (ap (λ (m : Manager). state_of m c.args.by) (sym c.self.view_is) ∙ state_past _ _ _ c.self.invariant c.args.by found.3)

pub returns-in-None-clause-live : goal.returns-in-None-clause-live
returns-in-None-clause-live c = live_is_open _ _ _ c.self.invariant _ c.args.by _ c.self.view_is (returns-in-None-clause-state c)

use Rattle.std.proofs.Common.{◌∙◌, ap, length, arith}
use Rattle.txn_manager.specs.declared.history.PassHistory.{PassHistory}
use Rattle.txn_manager.specs.Histories.{with_open}
use Rattle.txn_manager.proofs.ViewLemmas.{inside_of, history_at, begun-kept}
use Rattle.txn_manager.proofs.ManagerLemmas.{kept_begun, view_begun, next_is_new}
use Rattle.txn_manager.proofs.manager.TxnManager.open_txn.Goals as goal

pub invariant_of-self-2 : goal.invariant_of-self-2
invariant_of-self-2 c =
    let inside = inside_of _ _ _ _ c.args.pass c.self.view_is c.requires.pass in
    let at = history_at _ c.args.pass _ inside c.index_mut.ensures.value in
    let used = (c.self.invariant.recorded.each c.args.pass).used in
    let here = ap (λ (h : PassHistory). length h.stamps) at in
    let begun = begun-kept _ _ _ _ _ _ c.self.view_is at in
    kept_begun _ _ _ c.self.invariant _ c.args.pass _ _ inside at c.in_ok-reserve.ensures.kept
    (c.in_ok-begin.ensures.ok ∙ ap (with_open c.index_mut.result.now) c.len-start.ensures.len)
    (omega (arith, used, here, begun, c.begun-begun.ensures, c.if-begun-self.false)) (omega (arith, c.in_ok-reserve.ensures.ok, c.len.ensures))

pub returns-clause-opened : goal.returns-clause-opened
returns-clause-opened c =
    let inside = inside_of _ _ _ _ c.args.pass c.self.view_is c.requires.pass in
    let at = history_at _ c.args.pass _ inside c.index_mut.ensures.value in
    rw (← c.self.view_is) (view_begun _ _ _ c.self.invariant _ c.args.pass _ _ inside at c.in_ok-reserve.ensures.kept
    (c.in_ok-begin.ensures.ok ∙ ap (with_open c.index_mut.result.now) c.len-start.ensures.len))

pub returns-clause-new_name : goal.returns-clause-new_name
returns-clause-new_name c = rw (← c.self.view_is) (next_is_new _ _ _ c.self.invariant c.args.pass)

use Rattle.std.proofs.Common.{◌∙◌, sym, ap, length, arith}
use Rattle.txn_manager.specs.declared.history.PassHistory.{PassHistory}
use Rattle.txn_manager.proofs.ViewLemmas.{inside_of, history_at, begun-kept}
use Rattle.txn_manager.proofs.manager.TxnManager.begun.Goals as goal

pub begun-requires : goal.begun-requires
begun-requires c =
    let inside = inside_of _ _ _ _ c.args.pass c.self.view_is c.requires in
    let at = history_at _ c.args.pass _ inside c.index.ensures in
    let used = (c.self.invariant.recorded.each c.args.pass).used in
    let same = ap (λ (h : PassHistory). length h.stamps) at in
    omega (arith, c.self.invariant.small)

pub returns : goal.returns
returns c =
    let inside = inside_of _ _ _ _ c.args.pass c.self.view_is c.requires in
    let at = history_at _ c.args.pass _ inside c.index.ensures in
    c.begun.ensures ∙ sym (begun-kept _ _ _ _ _ _ c.self.view_is at)

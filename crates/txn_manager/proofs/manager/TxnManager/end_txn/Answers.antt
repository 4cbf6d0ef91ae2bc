use Rattle.std.proofs.Common.{sym, ◌∙◌, ap}
use Rattle.txn_manager.specs.Histories.{with_none}
use Rattle.txn_manager.proofs.ViewLemmas.{open_of, history_at}
use Rattle.txn_manager.proofs.ManagerLemmas.{kept_ended, view_ended}
use Rattle.txn_manager.proofs.manager.TxnManager.end_txn.Goals as goal

pub invariant_of-self : goal.invariant_of-self
invariant_of-self c =
    let found = open_of _ _ _ _ c.args.by c.self.view_is c.requires in
    let here = history_at _ c.args.by.job _ (found.1).inside c.index_mut.ensures.value in
    kept_ended _ _ _ c.self.invariant c.args.by found.0 found.1 _ (c.end.ensures ∙ ap with_none (sym here))

pub returns : goal.returns
returns c =
    let found = open_of _ _ _ _ c.args.by c.self.view_is c.requires in
    let here = history_at _ c.args.by.job _ (found.1).inside c.index_mut.ensures.value in
    rw (← c.self.view_is) (view_ended _ _ _ c.self.invariant c.args.by found.0 found.1 _ (c.end.ensures ∙ ap with_none (sym here)))

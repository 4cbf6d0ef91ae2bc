use Rattle.txn_manager.proofs.ManagerLemmas.{managed}
use Rattle.txn_manager.proofs.manager.TxnManager.is_managed.Goals as goal

pub returns : goal.returns
returns c = rw (← c.self.view_is) (managed _ _ _ c.self.invariant)

use Rattle.std.proofs.Common.{◌≡◌, replicate}
use Rattle.txn_manager.specs.Histories.{no_history}
use Rattle.txn_manager.proofs.manager.TxnManager.new.Given as goal

-- so many passes that have begun nothing were put
abbrev pub invariant-loop : goal.invariant-loop
invariant-loop l = l.histories.items ≡ replicate l.counter no_history

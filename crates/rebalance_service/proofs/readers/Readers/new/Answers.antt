use Rattle.rebalance_service.proofs.SyncLemmas.{keep_shared}
use Rattle.rebalance_service.proofs.readers.Readers.new.Goals as goal

pub invariant_of-result : goal.invariant_of-result
invariant_of-result g c = record { shared = keep_shared _ c.type_bounds.sync-R }

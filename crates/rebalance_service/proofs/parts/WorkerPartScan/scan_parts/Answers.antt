use Rattle.rebalance_service.proofs.SyncLemmas.{is_shared}
use Rattle.rebalance_service.proofs.parts.WorkerPartScan.scan_parts.Goals as goal

pub scan_by-requires-sync-R : goal.scan_by-requires-sync-R
scan_by-requires-sync-R g c κs within = is_shared _ c.in-Some.readers.shared

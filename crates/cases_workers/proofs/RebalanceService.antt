-- Modules of rebalance_service that crates above name.
pub use Rattle.rebalance_service.proofs.WorkerCalls.ReadyLemmas
pub use Rattle.rebalance_service.proofs.SendLemmas

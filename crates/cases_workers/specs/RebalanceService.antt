-- Modules of rebalance_service that crates above name.
pub use Rattle.rebalance_service.specs.WorkerCalls.Ready

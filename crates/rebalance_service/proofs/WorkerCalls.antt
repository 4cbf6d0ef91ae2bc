-- Modules of worker_calls that crates above name.
pub use Rattle.worker_calls.proofs.PropLemmas
pub use Rattle.worker_calls.proofs.ReadyLemmas

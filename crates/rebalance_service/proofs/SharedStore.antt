-- Modules of shared_store that crates above name.
pub use Rattle.worker_calls.proofs.SharedStore.SendLemmas

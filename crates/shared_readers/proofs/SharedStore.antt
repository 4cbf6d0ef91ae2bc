-- Modules of shared_store that crates above name.
pub use Rattle.shared_store.proofs.SendLemmas

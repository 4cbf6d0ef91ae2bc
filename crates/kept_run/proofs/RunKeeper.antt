-- Modules of run_keeper that crates above name.
pub use Rattle.run_keeper.proofs.KeptLemmas

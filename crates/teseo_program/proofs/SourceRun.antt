-- Modules of source_run that crates above name.
pub use Rattle.source_run.proofs.RequestLemmas
pub use Rattle.source_run.proofs.RunLemmas

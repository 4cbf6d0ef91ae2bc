-- Modules of source_run that crates above name.
pub use Rattle.teseo_program.proofs.SourceRun.RequestLemmas
pub use Rattle.teseo_program.proofs.SourceRun.RunLemmas

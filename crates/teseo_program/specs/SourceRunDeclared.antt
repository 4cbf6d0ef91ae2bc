-- Modules of source_run that crates above name.
pub use Rattle.source_run.specs.declared.fault
pub use Rattle.source_run.specs.declared.input
pub use Rattle.source_run.specs.declared.ran

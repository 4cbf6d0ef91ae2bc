-- Modules of source_run that crates above name.
pub use Rattle.teseo_program.specs.SourceRunDeclared.fault
pub use Rattle.teseo_program.specs.SourceRunDeclared.ran

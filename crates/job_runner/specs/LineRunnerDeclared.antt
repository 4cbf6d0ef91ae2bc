-- Modules of line_runner that crates above name.
pub use Rattle.line_runner.specs.declared.answering
pub use Rattle.line_runner.specs.declared.kept
pub use Rattle.line_runner.specs.declared.phase
pub use Rattle.line_runner.specs.declared.reading
pub use Rattle.line_runner.specs.declared.table

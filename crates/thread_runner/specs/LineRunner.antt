-- Modules of line_runner that crates above name.
pub use Rattle.job_runner.specs.LineRunner.Phases

-- Modules of job_runner that crates above name.
pub use Rattle.serial_runner.specs.JobRunner.NamedTable
pub use Rattle.serial_runner.specs.JobRunner.Phases
pub use Rattle.serial_runner.specs.JobRunner.Progress

-- Modules of job_runner that crates above name.
pub use Rattle.job_runner.specs.Progress
pub use Rattle.job_runner.specs.Runs

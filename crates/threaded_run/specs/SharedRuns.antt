-- Modules of shared_runs that crates above name.
pub use Rattle.shared_runs.specs.Closing

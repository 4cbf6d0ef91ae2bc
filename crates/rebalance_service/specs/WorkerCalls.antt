-- Modules of worker_calls that crates above name.
pub use Rattle.worker_calls.specs.Ready

-- Modules of optimistic_read that crates above name.
pub use Rattle.optimistic_read.specs.Runs
pub use Rattle.optimistic_read.specs.Tried

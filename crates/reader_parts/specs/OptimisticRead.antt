-- Modules of optimistic_read that crates above name.
pub use Rattle.shared_readers.specs.OptimisticRead.Runs
pub use Rattle.shared_readers.specs.OptimisticRead.Tried

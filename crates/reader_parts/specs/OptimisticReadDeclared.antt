-- Modules of optimistic_read that crates above name.
pub use Rattle.shared_readers.specs.OptimisticReadDeclared.tried

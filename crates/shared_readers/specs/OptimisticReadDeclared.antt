-- Modules of optimistic_read that crates above name.
pub use Rattle.optimistic_read.specs.declared.tried

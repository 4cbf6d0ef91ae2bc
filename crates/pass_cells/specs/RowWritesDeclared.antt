-- Modules of row_writes that crates above name.
pub use Rattle.row_writes.specs.declared.written

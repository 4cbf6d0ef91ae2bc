-- Modules of row_writes that crates above name.
pub use Rattle.shared_readers.specs.RowWrites.Written

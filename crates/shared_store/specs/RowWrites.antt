-- Modules of row_writes that crates above name.
pub use Rattle.leaf_rows.specs.RowWrites.Written

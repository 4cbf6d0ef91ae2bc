-- Modules of row_writes that crates above name.
pub use Rattle.leaf_rows.proofs.RowWrites.KeyLemmas

-- Modules of row_writes that crates above name.
pub use Rattle.pass_cells.proofs.RowWrites.WrittenLemmas

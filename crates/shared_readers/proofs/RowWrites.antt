-- Modules of row_writes that crates above name.
pub use Rattle.shared_store.proofs.RowWrites.KeyLemmas

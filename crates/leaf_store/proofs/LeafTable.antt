-- Modules of leaf_table that crates above name.
pub use Rattle.leaf_table.proofs.FillLemmas

-- Modules of leaf_array that crates above name.
pub use Rattle.leaf_table.proofs.LeafArray.CountLemmas
pub use Rattle.leaf_table.proofs.LeafArray.EightLemmas
pub use Rattle.leaf_table.proofs.LeafArray.LeafLemmas
pub use Rattle.leaf_table.proofs.LeafArray.PairLemmas
pub use Rattle.leaf_table.proofs.LeafArray.SegmentLemmas

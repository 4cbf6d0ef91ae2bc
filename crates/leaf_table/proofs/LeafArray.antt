-- Modules of leaf_array that crates above name.
pub use Rattle.leaf_array.proofs.CountLemmas
pub use Rattle.leaf_array.proofs.EightLemmas
pub use Rattle.leaf_array.proofs.LeafLemmas
pub use Rattle.leaf_array.proofs.PairLemmas
pub use Rattle.leaf_array.proofs.SegmentLemmas

-- Modules of leaf_array that crates above name.
pub use Rattle.pass_leaves.proofs.LeafArray.CountLemmas
pub use Rattle.pass_leaves.proofs.LeafArray.EightLemmas
pub use Rattle.pass_leaves.proofs.LeafArray.LeafLemmas
pub use Rattle.pass_leaves.proofs.LeafArray.PairLemmas

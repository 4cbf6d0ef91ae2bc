-- Modules of leaf_array that crates above name.
pub use Rattle.leaf_store.proofs.LeafArray.CountLemmas
pub use Rattle.leaf_store.proofs.LeafArray.EightLemmas
pub use Rattle.leaf_store.proofs.LeafArray.LeafLemmas
pub use Rattle.leaf_store.proofs.LeafArray.PairLemmas

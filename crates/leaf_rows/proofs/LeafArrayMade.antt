-- Modules of leaf_array that crates above name.
pub use Rattle.leaf_store.proofs.LeafArrayMade.Leaf

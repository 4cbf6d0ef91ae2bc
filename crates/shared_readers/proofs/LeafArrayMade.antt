-- Modules of leaf_array that crates above name.
pub use Rattle.shared_store.proofs.LeafArrayMade.Leaf

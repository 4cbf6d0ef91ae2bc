-- Modules of leaf_array that crates above name.
pub use Rattle.shared_readers.proofs.LeafArrayMade.Leaf

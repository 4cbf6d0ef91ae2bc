-- Modules of leaf_array that crates above name.
pub use Rattle.reader_parts.proofs.LeafArrayMade.Leaf

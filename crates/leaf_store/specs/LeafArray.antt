-- Modules of leaf_array that crates above name.
pub use Rattle.leaf_table.specs.LeafArray.Leaves
pub use Rattle.leaf_table.specs.LeafArray.Segments

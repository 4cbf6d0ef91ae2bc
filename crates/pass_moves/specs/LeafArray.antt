-- Modules of leaf_array that crates above name.
pub use Rattle.pass_leaves.specs.LeafArray.Leaves
pub use Rattle.pass_leaves.specs.LeafArray.Segments

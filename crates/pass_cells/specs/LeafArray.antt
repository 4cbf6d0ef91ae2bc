-- Modules of leaf_array that crates above name.
pub use Rattle.store_rule.specs.LeafArray.Leaves
pub use Rattle.store_rule.specs.LeafArray.Segments

-- Modules of leaf_array that crates above name.
pub use Rattle.rule_model.specs.LeafArray.Leaves
pub use Rattle.rule_model.specs.LeafArray.Segments

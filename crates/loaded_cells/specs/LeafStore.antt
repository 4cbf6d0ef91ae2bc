-- Modules of leaf_store that crates above name.
pub use Rattle.rule_model.specs.LeafStore.Changes
pub use Rattle.rule_model.specs.LeafStore.Leaves
pub use Rattle.rule_model.specs.LeafStore.Merging
pub use Rattle.rule_model.specs.LeafStore.Pairs
pub use Rattle.rule_model.specs.LeafStore.Ranges
pub use Rattle.rule_model.specs.LeafStore.Table

-- Modules of leaf_store that crates above name.
pub use Rattle.store_rule.specs.LeafStore.Leaves
pub use Rattle.store_rule.specs.LeafStore.Merging
pub use Rattle.store_rule.specs.LeafStore.Pairs
pub use Rattle.store_rule.specs.LeafStore.Ranges
pub use Rattle.store_rule.specs.LeafStore.Table

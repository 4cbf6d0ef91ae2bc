-- Modules of leaf_store that crates above name.
pub use Rattle.store_rule.specs.LeafStoreDeclared.pair

-- Modules of leaf_store that crates above name.
pub use Rattle.rule_model.specs.LeafStoreDeclared.pair

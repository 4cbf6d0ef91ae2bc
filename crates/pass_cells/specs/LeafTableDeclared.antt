-- Modules of leaf_table that crates above name.
pub use Rattle.store_rule.specs.LeafTableDeclared.place

-- Modules of leaf_table that crates above name.
pub use Rattle.rule_model.specs.LeafTableDeclared.place

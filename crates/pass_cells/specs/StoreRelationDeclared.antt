-- Modules of store_relation that crates above name.
pub use Rattle.store_rule.specs.StoreRelationDeclared.stage

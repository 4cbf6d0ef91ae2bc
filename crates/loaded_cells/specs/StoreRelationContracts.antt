-- Modules of store_relation that crates above name.
pub use Rattle.rule_model.specs.StoreRelationContracts.stage

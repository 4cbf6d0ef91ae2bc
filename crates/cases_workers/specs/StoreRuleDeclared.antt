-- Modules of store_rule that crates above name.
pub use Rattle.rebalance_service.specs.StoreRuleDeclared.store

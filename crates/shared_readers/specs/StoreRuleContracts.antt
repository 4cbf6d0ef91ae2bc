-- Modules of store_rule that crates above name.
pub use Rattle.optimistic_read.specs.StoreRuleContracts.slot
pub use Rattle.optimistic_read.specs.StoreRuleContracts.store

-- Modules of store_rule that crates above name.
pub use Rattle.pass_prunes.specs.StoreRuleContracts.slot
pub use Rattle.pass_prunes.specs.StoreRuleContracts.store

-- Modules of store_rule that crates above name.
pub use Rattle.pass_steps.specs.StoreRuleContracts.slot
pub use Rattle.pass_steps.specs.StoreRuleContracts.store

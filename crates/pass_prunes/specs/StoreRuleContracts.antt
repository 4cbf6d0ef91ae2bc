-- Modules of store_rule that crates above name.
pub use Rattle.pass_cells.specs.StoreRuleContracts.slot
pub use Rattle.pass_cells.specs.StoreRuleContracts.store

-- Modules of store_rule that crates above name.
pub use Rattle.store_rule.specs.contracts.slot
pub use Rattle.store_rule.specs.contracts.store

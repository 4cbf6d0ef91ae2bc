-- Modules of store_rule that crates above name.
pub use Rattle.optimistic_read.specs.StoreRuleDeclared.slot
pub use Rattle.optimistic_read.specs.StoreRuleDeclared.store

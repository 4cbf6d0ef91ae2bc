-- Modules of store_rule that crates above name.
pub use Rattle.store_rule.specs.declared.buffers
pub use Rattle.store_rule.specs.declared.close
pub use Rattle.store_rule.specs.declared.slot
pub use Rattle.store_rule.specs.declared.store

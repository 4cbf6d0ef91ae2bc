-- Modules of store_rule that crates above name.
pub use Rattle.shared_readers.specs.StoreRuleDeclared.slot
pub use Rattle.shared_readers.specs.StoreRuleDeclared.store

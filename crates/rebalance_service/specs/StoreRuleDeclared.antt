-- Modules of store_rule that crates above name.
pub use Rattle.worker_calls.specs.StoreRuleDeclared.store

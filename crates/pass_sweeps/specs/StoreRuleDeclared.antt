-- Modules of store_rule that crates above name.
pub use Rattle.pass_steps.specs.StoreRuleDeclared.store

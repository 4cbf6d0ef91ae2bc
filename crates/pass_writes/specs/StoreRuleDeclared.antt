-- Modules of store_rule that crates above name.
pub use Rattle.pass_prunes.specs.StoreRuleDeclared.close
pub use Rattle.pass_prunes.specs.StoreRuleDeclared.store

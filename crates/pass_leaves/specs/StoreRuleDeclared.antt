-- Modules of store_rule that crates above name.
pub use Rattle.pass_cells.specs.StoreRuleDeclared.slot
pub use Rattle.pass_cells.specs.StoreRuleDeclared.store

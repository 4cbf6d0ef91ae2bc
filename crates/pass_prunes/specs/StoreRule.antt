-- Modules of store_rule that crates above name.
pub use Rattle.pass_cells.specs.StoreRule.Closing
pub use Rattle.pass_cells.specs.StoreRule.Making
pub use Rattle.pass_cells.specs.StoreRule.Passes
pub use Rattle.pass_cells.specs.StoreRule.Whole

-- Modules of store_rule that crates above name.
pub use Rattle.pass_prunes.specs.StoreRule.Closing
pub use Rattle.pass_prunes.specs.StoreRule.Making
pub use Rattle.pass_prunes.specs.StoreRule.Passes
pub use Rattle.pass_prunes.specs.StoreRule.Whole

-- Modules of store_rule that crates above name.
pub use Rattle.store_rule.specs.Closing
pub use Rattle.store_rule.specs.Making

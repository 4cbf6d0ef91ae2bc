-- Modules of store_rule that crates above name.
pub use Rattle.store_rule.specs.Packing
pub use Rattle.store_rule.specs.Passes
pub use Rattle.store_rule.specs.Slots

-- Modules of store_relation that crates above name.
pub use Rattle.store_rule.specs.StoreRelation.Keys
pub use Rattle.store_rule.specs.StoreRelation.Loads
pub use Rattle.store_rule.specs.StoreRelation.Passes
pub use Rattle.store_rule.specs.StoreRelation.Readers
pub use Rattle.store_rule.specs.StoreRelation.Shared
pub use Rattle.store_rule.specs.StoreRelation.Steps

-- Modules of store_relation that crates above name.
pub use Rattle.rule_model.specs.StoreRelation.AccountLaws
pub use Rattle.rule_model.specs.StoreRelation.CheckLaws
pub use Rattle.rule_model.specs.StoreRelation.Ends
pub use Rattle.rule_model.specs.StoreRelation.Keys
pub use Rattle.rule_model.specs.StoreRelation.Loads
pub use Rattle.rule_model.specs.StoreRelation.Passes
pub use Rattle.rule_model.specs.StoreRelation.ReadLaws
pub use Rattle.rule_model.specs.StoreRelation.Readers
pub use Rattle.rule_model.specs.StoreRelation.Rows
pub use Rattle.rule_model.specs.StoreRelation.Shared
pub use Rattle.rule_model.specs.StoreRelation.Steps
pub use Rattle.rule_model.specs.StoreRelation.Words

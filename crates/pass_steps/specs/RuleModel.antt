-- Modules of rule_model that crates above name.
pub use Rattle.store_rule.specs.RuleModel.BlockSteps
pub use Rattle.store_rule.specs.RuleModel.EndSteps
pub use Rattle.store_rule.specs.RuleModel.NoteSteps
pub use Rattle.store_rule.specs.RuleModel.PinSteps
pub use Rattle.store_rule.specs.RuleModel.Places
pub use Rattle.store_rule.specs.RuleModel.RowSteps
pub use Rattle.store_rule.specs.RuleModel.Rule
pub use Rattle.store_rule.specs.RuleModel.Sight
pub use Rattle.store_rule.specs.RuleModel.Steps
pub use Rattle.store_rule.specs.RuleModel.StoreRelation
pub use Rattle.store_rule.specs.RuleModel.ViewSteps

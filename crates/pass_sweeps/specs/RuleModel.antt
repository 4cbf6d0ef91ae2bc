-- Modules of rule_model that crates above name.
pub use Rattle.pass_steps.specs.RuleModel.EndSteps
pub use Rattle.pass_steps.specs.RuleModel.Places
pub use Rattle.pass_steps.specs.RuleModel.RowSteps
pub use Rattle.pass_steps.specs.RuleModel.Sight
pub use Rattle.pass_steps.specs.RuleModel.Steps

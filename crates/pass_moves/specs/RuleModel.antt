-- Modules of rule_model that crates above name.
pub use Rattle.pass_leaves.specs.RuleModel.MoveSteps
pub use Rattle.pass_leaves.specs.RuleModel.Places
pub use Rattle.pass_leaves.specs.RuleModel.Sight
pub use Rattle.pass_leaves.specs.RuleModel.Steps

-- Modules of rule_model that crates above name.
pub use Rattle.pass_prunes.specs.RuleModel.Places
pub use Rattle.pass_prunes.specs.RuleModel.Sight
pub use Rattle.pass_prunes.specs.RuleModel.Steps

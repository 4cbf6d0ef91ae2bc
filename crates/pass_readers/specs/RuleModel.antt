-- Modules of rule_model that crates above name.
pub use Rattle.pass_steps.specs.RuleModel.StoreRelation

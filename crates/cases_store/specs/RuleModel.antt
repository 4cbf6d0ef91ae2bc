-- Modules of rule_model that crates above name.
pub use Rattle.store_rule.specs.RuleModel.Sight

-- Modules of rule_model that crates above name.
pub use Rattle.optimistic_read.specs.RuleModel.Sight

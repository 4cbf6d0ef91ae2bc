-- Modules of rule_model that crates above name.
pub use Rattle.rebalance_service.specs.RuleModel.Sight

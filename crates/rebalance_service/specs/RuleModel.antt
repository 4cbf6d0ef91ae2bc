-- Modules of rule_model that crates above name.
pub use Rattle.worker_calls.specs.RuleModel.Sight

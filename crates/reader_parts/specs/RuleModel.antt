-- Modules of rule_model that crates above name.
pub use Rattle.shared_readers.specs.RuleModel.Sight

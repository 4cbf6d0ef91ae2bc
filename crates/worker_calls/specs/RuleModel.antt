-- Modules of rule_model that crates above name.
pub use Rattle.reader_parts.specs.RuleModel.Sight

-- Modules of version_segment that crates above name.
pub use Rattle.rule_model.specs.VersionSegment.Checks
pub use Rattle.rule_model.specs.VersionSegment.Keyed
pub use Rattle.rule_model.specs.VersionSegment.Resting
pub use Rattle.rule_model.specs.VersionSegment.Rows
pub use Rattle.rule_model.specs.VersionSegment.Settling

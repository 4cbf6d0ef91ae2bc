-- Modules of version_segment that crates above name.
pub use Rattle.store_rule.specs.VersionSegment.Checks
pub use Rattle.store_rule.specs.VersionSegment.Keyed
pub use Rattle.store_rule.specs.VersionSegment.Resting
pub use Rattle.store_rule.specs.VersionSegment.Rows
pub use Rattle.store_rule.specs.VersionSegment.Settling

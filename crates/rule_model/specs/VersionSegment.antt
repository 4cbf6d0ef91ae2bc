-- Modules of version_segment that crates above name.
pub use Rattle.store_relation.specs.VersionSegment.Checks
pub use Rattle.store_relation.specs.VersionSegment.Keyed
pub use Rattle.store_relation.specs.VersionSegment.Resting
pub use Rattle.store_relation.specs.VersionSegment.Rows
pub use Rattle.store_relation.specs.VersionSegment.Settling

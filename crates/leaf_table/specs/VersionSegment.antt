-- Modules of version_segment that crates above name.
pub use Rattle.leaf_array.specs.VersionSegment.Changes
pub use Rattle.leaf_array.specs.VersionSegment.Checks
pub use Rattle.leaf_array.specs.VersionSegment.Keyed
pub use Rattle.leaf_array.specs.VersionSegment.Resting
pub use Rattle.leaf_array.specs.VersionSegment.Rows

-- Modules of version_segment that crates above name.
pub use Rattle.leaf_table.specs.VersionSegment.Keyed
pub use Rattle.leaf_table.specs.VersionSegment.Resting
pub use Rattle.leaf_table.specs.VersionSegment.Rows

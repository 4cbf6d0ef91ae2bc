-- Modules of version_segment that crates above name.
pub use Rattle.row_writes.specs.VersionSegment.Checks
pub use Rattle.row_writes.specs.VersionSegment.Keyed
pub use Rattle.row_writes.specs.VersionSegment.Rows

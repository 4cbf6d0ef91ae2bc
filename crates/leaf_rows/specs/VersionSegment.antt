-- Modules of version_segment that crates above name.
pub use Rattle.row_writes.specs.VersionSegment.Resting
pub use Rattle.row_writes.specs.VersionSegment.Rows

-- Modules of version_segment that crates above name.
pub use Rattle.pass_cells.specs.VersionSegment.Checks
pub use Rattle.pass_cells.specs.VersionSegment.Keyed
pub use Rattle.pass_cells.specs.VersionSegment.Rows

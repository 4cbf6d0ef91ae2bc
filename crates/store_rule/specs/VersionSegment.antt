-- Modules of version_segment that crates above name.
pub use Rattle.loaded_cells.specs.VersionSegment.Checks
pub use Rattle.loaded_cells.specs.VersionSegment.Keyed
pub use Rattle.loaded_cells.specs.VersionSegment.Resting
pub use Rattle.loaded_cells.specs.VersionSegment.Rows
pub use Rattle.loaded_cells.specs.VersionSegment.Settling

-- Modules of version_segment that crates above name.
pub use Rattle.version_segment.specs.Checks
pub use Rattle.version_segment.specs.Keyed
pub use Rattle.version_segment.specs.Resting
pub use Rattle.version_segment.specs.Rows
pub use Rattle.version_segment.specs.Settling

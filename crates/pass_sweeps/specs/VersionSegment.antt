-- Modules of version_segment that crates above name.
pub use Rattle.pass_steps.specs.VersionSegment.Resting
pub use Rattle.pass_steps.specs.VersionSegment.Rows
pub use Rattle.pass_steps.specs.VersionSegment.Settling

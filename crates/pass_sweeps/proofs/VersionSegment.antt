-- Modules of version_segment that crates above name.
pub use Rattle.pass_steps.proofs.VersionSegment.SettledLemmas
pub use Rattle.pass_steps.proofs.VersionSegment.WordLemmas

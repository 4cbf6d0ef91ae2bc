-- Modules of version_segment that crates above name.
pub use Rattle.version_segment.proofs.resting.Resting

-- Modules of version_segment that crates above name.
pub use Rattle.version_segment.proofs.KeyedLemmas
pub use Rattle.version_segment.proofs.LawLemmas
pub use Rattle.version_segment.proofs.SettledLemmas
pub use Rattle.version_segment.proofs.WordLemmas

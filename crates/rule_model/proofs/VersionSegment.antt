-- Modules of version_segment that crates above name.
pub use Rattle.store_relation.proofs.VersionSegment.KeyedLemmas
pub use Rattle.store_relation.proofs.VersionSegment.LawLemmas
pub use Rattle.store_relation.proofs.VersionSegment.SettledLemmas
pub use Rattle.store_relation.proofs.VersionSegment.WordLemmas

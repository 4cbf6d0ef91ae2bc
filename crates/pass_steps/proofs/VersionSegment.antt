-- Modules of version_segment that crates above name.
pub use Rattle.store_rule.proofs.VersionSegment.KeyedLemmas
pub use Rattle.store_rule.proofs.VersionSegment.LawLemmas
pub use Rattle.store_rule.proofs.VersionSegment.SettledLemmas
pub use Rattle.store_rule.proofs.VersionSegment.WordLemmas

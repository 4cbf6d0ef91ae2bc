-- Modules of version_segment that crates above name.
pub use Rattle.rule_model.proofs.VersionSegment.KeyedLemmas
pub use Rattle.rule_model.proofs.VersionSegment.LawLemmas
pub use Rattle.rule_model.proofs.VersionSegment.SettledLemmas
pub use Rattle.rule_model.proofs.VersionSegment.WordLemmas

-- Modules of version_segment that crates above name.
pub use Rattle.row_writes.proofs.VersionSegment.KeyedLemmas
pub use Rattle.row_writes.proofs.VersionSegment.LawLemmas

-- Modules of version_segment that crates above name.
pub use Rattle.leaf_table.proofs.VersionSegment.KeyedLemmas

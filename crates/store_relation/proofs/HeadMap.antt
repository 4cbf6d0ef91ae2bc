-- Modules of head_map that crates above name.
pub use Rattle.version_segment.proofs.HeadMap.HeadLemmas

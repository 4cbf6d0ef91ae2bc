-- Modules of version_segment that crates above name.
pub use Rattle.loaded_cells.proofs.VersionSegment.KeyedLemmas
pub use Rattle.loaded_cells.proofs.VersionSegment.LawLemmas
pub use Rattle.loaded_cells.proofs.VersionSegment.SettledLemmas
pub use Rattle.loaded_cells.proofs.VersionSegment.WordLemmas

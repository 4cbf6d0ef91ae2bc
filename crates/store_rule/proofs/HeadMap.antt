-- Modules of head_map that crates above name.
pub use Rattle.loaded_cells.proofs.HeadMap.HeadLemmas

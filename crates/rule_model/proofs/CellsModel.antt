-- Modules of cells_model that crates above name.
pub use Rattle.cells_model.proofs.BlockLemmas
pub use Rattle.cells_model.proofs.InPlaceLemmas
pub use Rattle.cells_model.proofs.IndexedLemmas
pub use Rattle.cells_model.proofs.NumberedLemmas
pub use Rattle.cells_model.proofs.RunLemmas
pub use Rattle.cells_model.proofs.WordLemmas

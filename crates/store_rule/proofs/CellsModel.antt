-- Modules of cells_model that crates above name.
pub use Rattle.loaded_cells.proofs.CellsModel.InPlaceLemmas
pub use Rattle.loaded_cells.proofs.CellsModel.IndexedLemmas
pub use Rattle.loaded_cells.proofs.CellsModel.RunLemmas
pub use Rattle.loaded_cells.proofs.CellsModel.WordLemmas

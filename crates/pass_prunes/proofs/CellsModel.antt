-- Modules of cells_model that crates above name.
pub use Rattle.pass_cells.proofs.CellsModel.IndexedLemmas
pub use Rattle.pass_cells.proofs.CellsModel.RunLemmas
pub use Rattle.pass_cells.proofs.CellsModel.WordLemmas

-- Modules of cells_model that crates above name.
pub use Rattle.pass_prunes.proofs.CellsModel.IndexedLemmas
pub use Rattle.pass_prunes.proofs.CellsModel.RunLemmas
pub use Rattle.pass_prunes.proofs.CellsModel.WordLemmas

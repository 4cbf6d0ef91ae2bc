-- Modules of cells_model that crates above name.
pub use Rattle.store_rule.proofs.CellsModel.IndexedLemmas
pub use Rattle.store_rule.proofs.CellsModel.RunLemmas
pub use Rattle.store_rule.proofs.CellsModel.WordLemmas

-- Modules of cells_model that crates above name.
pub use Rattle.store_rule.proofs.CellsModel.InPlaceLemmas
pub use Rattle.store_rule.proofs.CellsModel.WordLemmas

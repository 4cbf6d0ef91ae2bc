-- Modules of cells_model that crates above name.
pub use Rattle.rule_model.proofs.CellsModel.BlockLemmas
pub use Rattle.rule_model.proofs.CellsModel.InPlaceLemmas
pub use Rattle.rule_model.proofs.CellsModel.IndexedLemmas
pub use Rattle.rule_model.proofs.CellsModel.RunLemmas
pub use Rattle.rule_model.proofs.CellsModel.WordLemmas

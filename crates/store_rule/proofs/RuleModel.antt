-- Modules of rule_model that crates above name.
pub use Rattle.loaded_cells.proofs.RuleModel.FrameLemmas
pub use Rattle.loaded_cells.proofs.RuleModel.MoveStepLemmas
pub use Rattle.loaded_cells.proofs.RuleModel.NoteStepLemmas
pub use Rattle.loaded_cells.proofs.RuleModel.PassFrame
pub use Rattle.loaded_cells.proofs.RuleModel.PinFrame
pub use Rattle.loaded_cells.proofs.RuleModel.PinStepLemmas
pub use Rattle.loaded_cells.proofs.RuleModel.RowFrame
pub use Rattle.loaded_cells.proofs.RuleModel.RowStepLemmas
pub use Rattle.loaded_cells.proofs.RuleModel.TxnLemmas
pub use Rattle.loaded_cells.proofs.RuleModel.ViewLemmas

-- Modules of rule_model that crates above name.
pub use Rattle.rule_model.proofs.FrameLemmas
pub use Rattle.rule_model.proofs.MoveStepLemmas
pub use Rattle.rule_model.proofs.NoteStepLemmas
pub use Rattle.rule_model.proofs.PassFrame
pub use Rattle.rule_model.proofs.PinFrame
pub use Rattle.rule_model.proofs.PinStepLemmas
pub use Rattle.rule_model.proofs.RowFrame
pub use Rattle.rule_model.proofs.RowStepLemmas
pub use Rattle.rule_model.proofs.TxnLemmas
pub use Rattle.rule_model.proofs.ViewLemmas

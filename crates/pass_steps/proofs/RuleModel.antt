-- Modules of rule_model that crates above name.
pub use Rattle.store_rule.proofs.RuleModel.FrameLemmas
pub use Rattle.store_rule.proofs.RuleModel.NoteStepLemmas
pub use Rattle.store_rule.proofs.RuleModel.PassFrame
pub use Rattle.store_rule.proofs.RuleModel.PinFrame
pub use Rattle.store_rule.proofs.RuleModel.PinStepLemmas
pub use Rattle.store_rule.proofs.RuleModel.RowFrame
pub use Rattle.store_rule.proofs.RuleModel.RowStepLemmas
pub use Rattle.store_rule.proofs.RuleModel.TxnLemmas
pub use Rattle.store_rule.proofs.RuleModel.ViewLemmas

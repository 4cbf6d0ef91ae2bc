-- Modules of rule_model that crates above name.
pub use Rattle.store_rule.proofs.RuleModel.FrameLemmas
pub use Rattle.store_rule.proofs.RuleModel.MoveStepLemmas
pub use Rattle.store_rule.proofs.RuleModel.TxnLemmas

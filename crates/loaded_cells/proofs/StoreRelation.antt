-- Modules of store_relation that crates above name.
pub use Rattle.rule_model.proofs.StoreRelation.AccountLemmas
pub use Rattle.rule_model.proofs.StoreRelation.CheckLemmas
pub use Rattle.rule_model.proofs.StoreRelation.EndLemmas
pub use Rattle.rule_model.proofs.StoreRelation.KeyLemmas
pub use Rattle.rule_model.proofs.StoreRelation.LearnLemmas
pub use Rattle.rule_model.proofs.StoreRelation.ListLemmas
pub use Rattle.rule_model.proofs.StoreRelation.LoadLemmas
pub use Rattle.rule_model.proofs.StoreRelation.MadeLemmas
pub use Rattle.rule_model.proofs.StoreRelation.MeetLemmas
pub use Rattle.rule_model.proofs.StoreRelation.ReadLemmas
pub use Rattle.rule_model.proofs.StoreRelation.RowStepLemmas
pub use Rattle.rule_model.proofs.StoreRelation.SharedLemmas
pub use Rattle.rule_model.proofs.StoreRelation.StepLemmas

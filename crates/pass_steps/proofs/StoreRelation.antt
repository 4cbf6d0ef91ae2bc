-- Modules of store_relation that crates above name.
pub use Rattle.store_rule.proofs.StoreRelation.LearnLemmas
pub use Rattle.store_rule.proofs.StoreRelation.ListLemmas
pub use Rattle.store_rule.proofs.StoreRelation.ReadLemmas
pub use Rattle.store_rule.proofs.StoreRelation.RowStepLemmas
pub use Rattle.store_rule.proofs.StoreRelation.SharedLemmas
pub use Rattle.store_rule.proofs.StoreRelation.StepLemmas

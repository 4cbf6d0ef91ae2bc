-- Modules of store_relation that crates above name.
pub use Rattle.store_rule.proofs.StoreRelation.AccountLemmas
pub use Rattle.store_rule.proofs.StoreRelation.CheckLemmas
pub use Rattle.store_rule.proofs.StoreRelation.EndLemmas
pub use Rattle.store_rule.proofs.StoreRelation.ListLemmas
pub use Rattle.store_rule.proofs.StoreRelation.LoadLemmas
pub use Rattle.store_rule.proofs.StoreRelation.MadeLemmas

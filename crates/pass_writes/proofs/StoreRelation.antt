-- Modules of store_relation that crates above name.
pub use Rattle.pass_prunes.proofs.StoreRelation.AccountLemmas
pub use Rattle.pass_prunes.proofs.StoreRelation.EndLemmas
pub use Rattle.pass_prunes.proofs.StoreRelation.ListLemmas
pub use Rattle.pass_prunes.proofs.StoreRelation.LoadLemmas
pub use Rattle.pass_prunes.proofs.StoreRelation.MadeLemmas

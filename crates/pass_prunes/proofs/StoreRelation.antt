-- Modules of store_relation that crates above name.
pub use Rattle.pass_cells.proofs.StoreRelation.AccountLemmas
pub use Rattle.pass_cells.proofs.StoreRelation.CheckLemmas
pub use Rattle.pass_cells.proofs.StoreRelation.EndLemmas
pub use Rattle.pass_cells.proofs.StoreRelation.ListLemmas
pub use Rattle.pass_cells.proofs.StoreRelation.LoadLemmas
pub use Rattle.pass_cells.proofs.StoreRelation.MadeLemmas

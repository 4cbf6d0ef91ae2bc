-- Modules of store_relation that crates above name.
pub use Rattle.loaded_cells.proofs.StoreRelation.AccountLemmas
pub use Rattle.loaded_cells.proofs.StoreRelation.CheckLemmas
pub use Rattle.loaded_cells.proofs.StoreRelation.EndLemmas
pub use Rattle.loaded_cells.proofs.StoreRelation.KeyLemmas
pub use Rattle.loaded_cells.proofs.StoreRelation.LearnLemmas
pub use Rattle.loaded_cells.proofs.StoreRelation.ListLemmas
pub use Rattle.loaded_cells.proofs.StoreRelation.LoadLemmas
pub use Rattle.loaded_cells.proofs.StoreRelation.MadeLemmas
pub use Rattle.loaded_cells.proofs.StoreRelation.MeetLemmas
pub use Rattle.loaded_cells.proofs.StoreRelation.ReadLemmas
pub use Rattle.loaded_cells.proofs.StoreRelation.RowStepLemmas
pub use Rattle.loaded_cells.proofs.StoreRelation.SharedLemmas
pub use Rattle.loaded_cells.proofs.StoreRelation.StepLemmas

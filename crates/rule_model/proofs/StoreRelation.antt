-- Modules of store_relation that crates above name.
pub use Rattle.store_relation.proofs.AccountLemmas
pub use Rattle.store_relation.proofs.CheckLemmas
pub use Rattle.store_relation.proofs.EndLemmas
pub use Rattle.store_relation.proofs.KeyLemmas
pub use Rattle.store_relation.proofs.LearnLemmas
pub use Rattle.store_relation.proofs.ListLemmas
pub use Rattle.store_relation.proofs.LoadLemmas
pub use Rattle.store_relation.proofs.MadeLemmas
pub use Rattle.store_relation.proofs.MeetLemmas
pub use Rattle.store_relation.proofs.ReadLemmas
pub use Rattle.store_relation.proofs.RowStepLemmas
pub use Rattle.store_relation.proofs.SharedLemmas
pub use Rattle.store_relation.proofs.StepLemmas

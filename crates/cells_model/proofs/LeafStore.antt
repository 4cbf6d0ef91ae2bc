-- Modules of leaf_store that crates above name.
pub use Rattle.leaf_store.proofs.CellLemmas
pub use Rattle.leaf_store.proofs.FillEndLemmas
pub use Rattle.leaf_store.proofs.LeafTable.FillLemmas
pub use Rattle.leaf_store.proofs.FillStepLemmas
pub use Rattle.leaf_store.proofs.HalfLemmas
pub use Rattle.leaf_store.proofs.ListLemmas
pub use Rattle.leaf_store.proofs.MoveLemmas
pub use Rattle.leaf_store.proofs.PairLemmas
pub use Rattle.leaf_store.proofs.RangeLemmas
pub use Rattle.leaf_store.proofs.RoomLemmas
pub use Rattle.leaf_store.proofs.SameLemmas
pub use Rattle.leaf_store.proofs.SparseLemmas
pub use Rattle.leaf_store.proofs.SplitLemmas
pub use Rattle.leaf_store.proofs.StoreLemmas
pub use Rattle.leaf_store.proofs.TableLemmas
pub use Rattle.leaf_store.proofs.WalkLemmas

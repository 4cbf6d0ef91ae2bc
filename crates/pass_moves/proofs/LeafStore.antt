-- Modules of leaf_store that crates above name.
pub use Rattle.pass_leaves.proofs.LeafStore.CellLemmas
pub use Rattle.pass_leaves.proofs.LeafStore.HalfLemmas
pub use Rattle.pass_leaves.proofs.LeafStore.ListLemmas
pub use Rattle.pass_leaves.proofs.LeafStore.MoveLemmas
pub use Rattle.pass_leaves.proofs.LeafStore.PairLemmas
pub use Rattle.pass_leaves.proofs.LeafStore.RangeLemmas
pub use Rattle.pass_leaves.proofs.LeafStore.RoomLemmas
pub use Rattle.pass_leaves.proofs.LeafStore.SameLemmas
pub use Rattle.pass_leaves.proofs.LeafStore.SparseLemmas
pub use Rattle.pass_leaves.proofs.LeafStore.SplitLemmas
pub use Rattle.pass_leaves.proofs.LeafStore.TableLemmas
pub use Rattle.pass_leaves.proofs.LeafStore.WalkLemmas

-- Modules of leaf_store that crates above name.
pub use Rattle.pass_cells.proofs.LeafStore.CellLemmas
pub use Rattle.pass_cells.proofs.LeafStore.HalfLemmas
pub use Rattle.pass_cells.proofs.LeafStore.ListLemmas
pub use Rattle.pass_cells.proofs.LeafStore.MoveLemmas
pub use Rattle.pass_cells.proofs.LeafStore.PairLemmas
pub use Rattle.pass_cells.proofs.LeafStore.RangeLemmas
pub use Rattle.pass_cells.proofs.LeafStore.RoomLemmas
pub use Rattle.pass_cells.proofs.LeafStore.SameLemmas
pub use Rattle.pass_cells.proofs.LeafStore.SparseLemmas
pub use Rattle.pass_cells.proofs.LeafStore.SplitLemmas
pub use Rattle.pass_cells.proofs.LeafStore.TableLemmas
pub use Rattle.pass_cells.proofs.LeafStore.WalkLemmas

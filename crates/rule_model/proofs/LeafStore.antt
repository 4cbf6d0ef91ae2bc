-- Modules of leaf_store that crates above name.
pub use Rattle.cells_model.proofs.LeafStore.CellLemmas
pub use Rattle.cells_model.proofs.LeafStore.FillEndLemmas
pub use Rattle.cells_model.proofs.LeafStore.FillLemmas
pub use Rattle.cells_model.proofs.LeafStore.FillStepLemmas
pub use Rattle.cells_model.proofs.LeafStore.HalfLemmas
pub use Rattle.cells_model.proofs.LeafStore.ListLemmas
pub use Rattle.cells_model.proofs.LeafStore.MoveLemmas
pub use Rattle.cells_model.proofs.LeafStore.PairLemmas
pub use Rattle.cells_model.proofs.LeafStore.RangeLemmas
pub use Rattle.cells_model.proofs.LeafStore.RoomLemmas
pub use Rattle.cells_model.proofs.LeafStore.SameLemmas
pub use Rattle.cells_model.proofs.LeafStore.SparseLemmas
pub use Rattle.cells_model.proofs.LeafStore.SplitLemmas
pub use Rattle.cells_model.proofs.LeafStore.StoreLemmas
pub use Rattle.cells_model.proofs.LeafStore.TableLemmas
pub use Rattle.cells_model.proofs.LeafStore.WalkLemmas

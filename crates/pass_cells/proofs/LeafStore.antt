-- Modules of leaf_store that crates above name.
pub use Rattle.store_rule.proofs.LeafStore.CellLemmas
pub use Rattle.store_rule.proofs.LeafStore.HalfLemmas
pub use Rattle.store_rule.proofs.LeafStore.ListLemmas
pub use Rattle.store_rule.proofs.LeafStore.MoveLemmas
pub use Rattle.store_rule.proofs.LeafStore.PairLemmas
pub use Rattle.store_rule.proofs.LeafStore.RangeLemmas
pub use Rattle.store_rule.proofs.LeafStore.RoomLemmas
pub use Rattle.store_rule.proofs.LeafStore.SameLemmas
pub use Rattle.store_rule.proofs.LeafStore.SparseLemmas
pub use Rattle.store_rule.proofs.LeafStore.SplitLemmas
pub use Rattle.store_rule.proofs.LeafStore.TableLemmas
pub use Rattle.store_rule.proofs.LeafStore.WalkLemmas

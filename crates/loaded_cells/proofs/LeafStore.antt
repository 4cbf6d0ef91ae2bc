-- Modules of leaf_store that crates above name.
pub use Rattle.rule_model.proofs.LeafStore.CellLemmas
pub use Rattle.rule_model.proofs.LeafStore.HalfLemmas
pub use Rattle.rule_model.proofs.LeafStore.ListLemmas
pub use Rattle.rule_model.proofs.LeafStore.MoveLemmas
pub use Rattle.rule_model.proofs.LeafStore.PairLemmas
pub use Rattle.rule_model.proofs.LeafStore.RangeLemmas
pub use Rattle.rule_model.proofs.LeafStore.RoomLemmas
pub use Rattle.rule_model.proofs.LeafStore.SameLemmas
pub use Rattle.rule_model.proofs.LeafStore.SparseLemmas
pub use Rattle.rule_model.proofs.LeafStore.SplitLemmas
pub use Rattle.rule_model.proofs.LeafStore.TableLemmas
pub use Rattle.rule_model.proofs.LeafStore.WalkLemmas

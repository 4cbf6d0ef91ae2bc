-- Modules of leaf_array that crates above name.
pub use Rattle.cells_model.proofs.LeafArray.CountLemmas
pub use Rattle.cells_model.proofs.LeafArray.EightLemmas
pub use Rattle.cells_model.proofs.LeafArray.LeafLemmas
pub use Rattle.cells_model.proofs.LeafArray.PairLemmas

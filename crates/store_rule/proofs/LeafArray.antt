-- Modules of leaf_array that crates above name.
pub use Rattle.loaded_cells.proofs.LeafArray.CountLemmas
pub use Rattle.loaded_cells.proofs.LeafArray.EightLemmas
pub use Rattle.loaded_cells.proofs.LeafArray.LeafLemmas
pub use Rattle.loaded_cells.proofs.LeafArray.PairLemmas

-- Modules of leaf_array that crates above name.
pub use Rattle.pass_cells.proofs.LeafArray.CountLemmas
pub use Rattle.pass_cells.proofs.LeafArray.EightLemmas
pub use Rattle.pass_cells.proofs.LeafArray.LeafLemmas
pub use Rattle.pass_cells.proofs.LeafArray.PairLemmas

-- Modules of undo_chain that crates above name.
pub use Rattle.head_map.proofs.UndoChain.ListLemmas

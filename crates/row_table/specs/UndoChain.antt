-- Modules of undo_chain that crates above name.
pub use Rattle.head_map.specs.UndoChain.Chains
pub use Rattle.head_map.specs.UndoChain.Records
pub use Rattle.head_map.specs.UndoChain.States

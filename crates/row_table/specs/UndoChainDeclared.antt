-- Modules of undo_chain that crates above name.
pub use Rattle.head_map.specs.UndoChainDeclared.states
pub use Rattle.head_map.specs.UndoChainDeclared.touched

-- Modules of undo_chain that crates above name.
pub use Rattle.undo_chain.specs.declared.states
pub use Rattle.undo_chain.specs.declared.touched
pub use Rattle.undo_chain.specs.declared.undo

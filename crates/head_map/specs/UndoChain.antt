-- Modules of undo_chain that crates above name.
pub use Rattle.undo_chain.specs.Chains
pub use Rattle.undo_chain.specs.Records
pub use Rattle.undo_chain.specs.States
pub use Rattle.undo_chain.specs.Walks

-- Modules of undo_chain that crates above name.
pub use Rattle.undo_chain.proofs.ChainLemmas
pub use Rattle.undo_chain.proofs.ListLemmas
pub use Rattle.undo_chain.proofs.VersionLemmas

-- Modules of pass_moves that crates above name.
pub use Rattle.pass_moves.proofs.KeyLemmas
pub use Rattle.pass_moves.proofs.MovedCells
pub use Rattle.pass_moves.proofs.SpreadLemmas

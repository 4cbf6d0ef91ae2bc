-- Modules of pass_moves that crates above name.
pub use Rattle.pass_moves.specs.Moving
pub use Rattle.pass_moves.specs.Room

-- Modules of pass_leaves that crates above name.
pub use Rattle.pass_moves.specs.PassLeaves.Fit
pub use Rattle.pass_moves.specs.PassLeaves.Hand

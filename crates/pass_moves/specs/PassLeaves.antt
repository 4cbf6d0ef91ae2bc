-- Modules of pass_leaves that crates above name.
pub use Rattle.pass_leaves.specs.Fit
pub use Rattle.pass_leaves.specs.Hand

-- Modules of pass_leaves that crates above name.
pub use Rattle.pass_moves.specs.PassLeavesContracts.own

-- Modules of pass_settles that crates above name.
pub use Rattle.pass_settles.proofs.unsettled.UnsettledCells

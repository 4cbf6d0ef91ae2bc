-- Modules of pass_cells that crates above name.
pub use Rattle.pass_cells.proofs.DoneLemmas
pub use Rattle.pass_cells.proofs.StepLemmas

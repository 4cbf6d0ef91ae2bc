-- Modules of cells_model that crates above name.
pub use Rattle.pass_steps.proofs.CellsModel.WordLemmas

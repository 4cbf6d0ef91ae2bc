-- Modules of cells_model that crates above name.
pub use Rattle.pass_steps.specs.CellsModel.Cells
pub use Rattle.pass_steps.specs.CellsModel.Indexed
pub use Rattle.pass_steps.specs.CellsModel.Words

-- Modules of cells_model that crates above name.
pub use Rattle.pass_cells.specs.CellsModel.Cells
pub use Rattle.pass_cells.specs.CellsModel.InPlace
pub use Rattle.pass_cells.specs.CellsModel.Indexed
pub use Rattle.pass_cells.specs.CellsModel.Moved
pub use Rattle.pass_cells.specs.CellsModel.Words

-- Modules of cells_model that crates above name.
pub use Rattle.loaded_cells.specs.CellsModel.BlockLaws
pub use Rattle.loaded_cells.specs.CellsModel.Cells
pub use Rattle.loaded_cells.specs.CellsModel.InPlace
pub use Rattle.loaded_cells.specs.CellsModel.Indexed
pub use Rattle.loaded_cells.specs.CellsModel.Moved
pub use Rattle.loaded_cells.specs.CellsModel.Noted
pub use Rattle.loaded_cells.specs.CellsModel.Reads
pub use Rattle.loaded_cells.specs.CellsModel.Words

-- Modules of cells_model that crates above name.
pub use Rattle.pass_prunes.specs.CellsModel.Cells
pub use Rattle.pass_prunes.specs.CellsModel.InPlace
pub use Rattle.pass_prunes.specs.CellsModel.Indexed
pub use Rattle.pass_prunes.specs.CellsModel.Moved
pub use Rattle.pass_prunes.specs.CellsModel.Words

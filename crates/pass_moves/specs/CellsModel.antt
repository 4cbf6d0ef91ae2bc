-- Modules of cells_model that crates above name.
pub use Rattle.pass_leaves.specs.CellsModel.Cells
pub use Rattle.pass_leaves.specs.CellsModel.InPlace
pub use Rattle.pass_leaves.specs.CellsModel.Indexed
pub use Rattle.pass_leaves.specs.CellsModel.Moved
pub use Rattle.pass_leaves.specs.CellsModel.Words

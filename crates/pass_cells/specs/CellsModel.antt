-- Modules of cells_model that crates above name.
pub use Rattle.store_rule.specs.CellsModel.Cells
pub use Rattle.store_rule.specs.CellsModel.InPlace
pub use Rattle.store_rule.specs.CellsModel.Indexed
pub use Rattle.store_rule.specs.CellsModel.Moved
pub use Rattle.store_rule.specs.CellsModel.Words

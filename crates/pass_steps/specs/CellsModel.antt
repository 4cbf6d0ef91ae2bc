-- Modules of cells_model that crates above name.
pub use Rattle.store_rule.specs.CellsModel.BlockLaws
pub use Rattle.store_rule.specs.CellsModel.Cells
pub use Rattle.store_rule.specs.CellsModel.InPlace
pub use Rattle.store_rule.specs.CellsModel.Indexed
pub use Rattle.store_rule.specs.CellsModel.Noted
pub use Rattle.store_rule.specs.CellsModel.Reads
pub use Rattle.store_rule.specs.CellsModel.Words

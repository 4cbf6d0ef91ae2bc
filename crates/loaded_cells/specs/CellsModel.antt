-- Modules of cells_model that crates above name.
pub use Rattle.rule_model.specs.CellsModel.BlockLaws
pub use Rattle.rule_model.specs.CellsModel.Cells
pub use Rattle.rule_model.specs.CellsModel.InPlace
pub use Rattle.rule_model.specs.CellsModel.Indexed
pub use Rattle.rule_model.specs.CellsModel.Moved
pub use Rattle.rule_model.specs.CellsModel.Noted
pub use Rattle.rule_model.specs.CellsModel.Reads
pub use Rattle.rule_model.specs.CellsModel.Words

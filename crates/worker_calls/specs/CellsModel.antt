-- Modules of cells_model that crates above name.
pub use Rattle.reader_parts.specs.CellsModel.Words

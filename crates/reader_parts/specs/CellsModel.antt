-- Modules of cells_model that crates above name.
pub use Rattle.shared_readers.specs.CellsModel.Words

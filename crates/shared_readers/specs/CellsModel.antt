-- Modules of cells_model that crates above name.
pub use Rattle.optimistic_read.specs.CellsModel.Words

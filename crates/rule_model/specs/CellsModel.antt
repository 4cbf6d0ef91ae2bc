-- Modules of cells_model that crates above name.
pub use Rattle.cells_model.specs.BlockLaws
pub use Rattle.cells_model.specs.Cells
pub use Rattle.cells_model.specs.InPlace
pub use Rattle.cells_model.specs.Indexed
pub use Rattle.cells_model.specs.Moved
pub use Rattle.cells_model.specs.Noted
pub use Rattle.cells_model.specs.Reads
pub use Rattle.cells_model.specs.Words

-- Modules of row_writes that crates above name.
pub use Rattle.pass_cells.specs.RowWrites.Checks
pub use Rattle.pass_cells.specs.RowWrites.Held
pub use Rattle.pass_cells.specs.RowWrites.Laying
pub use Rattle.pass_cells.specs.RowWrites.Written

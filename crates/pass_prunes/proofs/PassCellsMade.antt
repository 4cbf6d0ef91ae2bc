-- Modules of pass_cells that crates above name.
pub use Rattle.pass_cells.proofs.hints.CellHints
pub use Rattle.pass_cells.proofs.taken.TakenCell
pub use Rattle.pass_cells.proofs.taken.TakenCells

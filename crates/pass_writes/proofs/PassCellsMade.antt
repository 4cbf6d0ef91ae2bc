-- Modules of pass_cells that crates above name.
pub use Rattle.pass_prunes.proofs.PassCellsMade.CellHints
pub use Rattle.pass_prunes.proofs.PassCellsMade.TakenCell
pub use Rattle.pass_prunes.proofs.PassCellsMade.TakenCells

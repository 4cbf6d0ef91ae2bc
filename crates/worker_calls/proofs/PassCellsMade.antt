-- Modules of pass_cells that crates above name.
pub use Rattle.pass_room.proofs.PassCellsMade.TakenCell

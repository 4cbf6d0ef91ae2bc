-- Modules of pass_cells that crates above name.
pub use Rattle.pass_leaves.specs.PassCells.Changes
pub use Rattle.pass_leaves.specs.PassCells.Holding

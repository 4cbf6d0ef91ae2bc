-- Modules of pass_cells that crates above name.
pub use Rattle.pass_cells.specs.Changes
pub use Rattle.pass_cells.specs.Holding
pub use Rattle.pass_cells.specs.Reading
pub use Rattle.pass_cells.specs.Room
pub use Rattle.pass_cells.specs.Taken

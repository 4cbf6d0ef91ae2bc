-- Modules of loaded_cells that crates above name.
pub use Rattle.pass_prunes.specs.LoadedCells.Numbered

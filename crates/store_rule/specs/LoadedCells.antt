-- Modules of loaded_cells that crates above name.
pub use Rattle.loaded_cells.specs.Numbered

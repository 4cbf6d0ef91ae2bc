-- Modules of loaded_cells that crates above name.
pub use Rattle.store_rule.specs.LoadedCells.Numbered

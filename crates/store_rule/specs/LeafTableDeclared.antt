-- Modules of leaf_table that crates above name.
pub use Rattle.loaded_cells.specs.LeafTableDeclared.place

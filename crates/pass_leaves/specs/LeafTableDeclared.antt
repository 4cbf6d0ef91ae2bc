-- Modules of leaf_table that crates above name.
pub use Rattle.pass_cells.specs.LeafTableDeclared.place

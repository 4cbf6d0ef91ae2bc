-- Modules of leaf_table that crates above name.
pub use Rattle.cells_model.specs.LeafTableDeclared.place

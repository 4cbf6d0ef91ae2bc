-- Modules of leaf_table that crates above name.
pub use Rattle.leaf_store.specs.LeafTableDeclared.place

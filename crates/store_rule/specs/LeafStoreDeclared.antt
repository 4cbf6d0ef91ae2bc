-- Modules of leaf_store that crates above name.
pub use Rattle.loaded_cells.specs.LeafStoreDeclared.pair

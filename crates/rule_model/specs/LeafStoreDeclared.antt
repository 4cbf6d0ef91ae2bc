-- Modules of leaf_store that crates above name.
pub use Rattle.cells_model.specs.LeafStoreDeclared.pair

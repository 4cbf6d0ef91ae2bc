-- Modules of leaf_array that crates above name.
pub use Rattle.cells_model.specs.LeafArrayDeclared.leaf

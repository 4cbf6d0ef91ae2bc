-- Modules of leaf_array that crates above name.
pub use Rattle.cells_model.specs.LeafArray.Leaves
pub use Rattle.cells_model.specs.LeafArray.Segments

-- Modules of leaf_array that crates above name.
pub use Rattle.loaded_cells.specs.LeafArray.Leaves
pub use Rattle.loaded_cells.specs.LeafArray.Segments

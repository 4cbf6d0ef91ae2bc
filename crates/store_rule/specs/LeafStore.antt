-- Modules of leaf_store that crates above name.
pub use Rattle.loaded_cells.specs.LeafStore.Leaves
pub use Rattle.loaded_cells.specs.LeafStore.Merging
pub use Rattle.loaded_cells.specs.LeafStore.Pairs
pub use Rattle.loaded_cells.specs.LeafStore.Ranges
pub use Rattle.loaded_cells.specs.LeafStore.Table

-- Modules of leaf_store that crates above name.
pub use Rattle.cells_model.specs.LeafStore.Changes
pub use Rattle.cells_model.specs.LeafStore.Fill
pub use Rattle.cells_model.specs.LeafStore.Settled
pub use Rattle.cells_model.specs.LeafStore.Leaves
pub use Rattle.cells_model.specs.LeafStore.Merging
pub use Rattle.cells_model.specs.LeafStore.Pairs
pub use Rattle.cells_model.specs.LeafStore.Ranges
pub use Rattle.cells_model.specs.LeafStore.Table

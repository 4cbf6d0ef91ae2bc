-- Modules of leaf_store that crates above name.
pub use Rattle.pass_cells.specs.LeafStore.Leaves
pub use Rattle.pass_cells.specs.LeafStore.Merging
pub use Rattle.pass_cells.specs.LeafStore.Pairs
pub use Rattle.pass_cells.specs.LeafStore.Ranges
pub use Rattle.pass_cells.specs.LeafStore.Table

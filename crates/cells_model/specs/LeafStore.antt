-- Modules of leaf_store that crates above name.
pub use Rattle.leaf_store.specs.Changes
pub use Rattle.leaf_store.specs.Fill
pub use Rattle.leaf_store.specs.LeafTable.Settled
pub use Rattle.leaf_store.specs.Leaves
pub use Rattle.leaf_store.specs.Merging
pub use Rattle.leaf_store.specs.Pairs
pub use Rattle.leaf_store.specs.Ranges
pub use Rattle.leaf_store.specs.Table

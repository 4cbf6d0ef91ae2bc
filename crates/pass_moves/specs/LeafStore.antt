-- Modules of leaf_store that crates above name.
pub use Rattle.pass_leaves.specs.LeafStore.Leaves
pub use Rattle.pass_leaves.specs.LeafStore.Merging
pub use Rattle.pass_leaves.specs.LeafStore.Pairs
pub use Rattle.pass_leaves.specs.LeafStore.Ranges
pub use Rattle.pass_leaves.specs.LeafStore.Table

-- Modules of leaf_store that crates above name.
pub use Rattle.pass_leaves.specs.LeafStoreDeclared.pair

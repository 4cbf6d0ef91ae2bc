-- Modules of leaf_store that crates above name.
pub use Rattle.leaf_store.specs.declared.pair

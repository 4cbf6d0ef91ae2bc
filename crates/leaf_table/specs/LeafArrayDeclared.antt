-- Modules of leaf_array that crates above name.
pub use Rattle.leaf_array.specs.declared.leaf

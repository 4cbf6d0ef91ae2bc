-- Modules of leaf_store that crates above name.
pub use Rattle.pass_cells.specs.LeafStoreDeclared.pair

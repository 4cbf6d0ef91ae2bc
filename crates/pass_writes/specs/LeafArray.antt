-- Modules of leaf_array that crates above name.
pub use Rattle.pass_prunes.specs.LeafArray.Segments

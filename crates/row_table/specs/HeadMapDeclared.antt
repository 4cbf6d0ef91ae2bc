-- Modules of head_map that crates above name.
pub use Rattle.head_map.specs.declared.heads

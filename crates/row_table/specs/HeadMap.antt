-- Modules of head_map that crates above name.
pub use Rattle.head_map.specs.Heads
pub use Rattle.head_map.specs.Keyed

pub mod Keyed
pub mod Heads
pub use Rattle.gap_segment.specs.Fenced
pub mod Resting
pub mod UndoChain
pub mod UndoChainDeclared

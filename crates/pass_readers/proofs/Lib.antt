mod CellLemmas
pub mod HandLemmas
pub mod LendLemmas
pub mod LookLemmas
pub mod RunLemmas
pub mod PassCellsMade

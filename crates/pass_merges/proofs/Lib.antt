pub mod IndexLemmas
pub mod CellLemmas
pub mod MergeLemmas
mod PassLemmas
pub mod TurnLemmas

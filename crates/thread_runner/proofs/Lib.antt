pub mod CallLemmas
pub mod TurnLemmas
pub mod RunLemmas
pub mod NewLemmas
pub mod BlockLemmas
pub mod ListLemmas

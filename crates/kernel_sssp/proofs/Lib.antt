pub mod CertainLemmas
pub mod ReachedLemmas
pub mod SearchLemmas
pub mod TableLemmas
pub mod WeightLemmas

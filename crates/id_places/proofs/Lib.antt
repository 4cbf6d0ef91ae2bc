pub mod KnownLemmas
pub mod DistinctLemmas
pub mod WithinLemmas
pub mod NumberLemmas

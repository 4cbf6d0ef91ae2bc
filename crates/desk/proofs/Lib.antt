pub mod LookLemmas
pub mod RingLemmas

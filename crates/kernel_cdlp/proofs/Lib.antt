pub mod FrequencyLemmas
pub mod KeptLemmas
pub mod PartLemmas
pub mod RisingLemmas
pub mod RoundLemmas
pub mod WakeLemmas

pub mod KeptLemmas
pub mod StopLemmas

pub mod AbortLemmas
pub mod StateLemmas
pub mod CheckLemmas
pub mod AnewLemmas
pub mod TurnLemmas
pub mod PrepareLemmas
pub mod EndLemmas

pub mod PlaceLemmas
pub mod FreshLemmas
pub mod SeatLemmas
pub mod EndLemmas
pub mod HomeLemmas
pub mod BehindLemmas
pub mod RunLemmas

pub mod HeldLemmas
pub mod LatchLaws
pub mod EndLaws
pub mod SeveralLemmas
pub mod PlaceLemmas

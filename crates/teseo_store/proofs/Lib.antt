pub mod PropLemmas
pub mod LendLemmas
pub mod Sessions

pub mod FootprintLemmas
pub mod CommitLemmas
pub mod ReadLemmas
pub mod WayLemmas
pub mod SerialLemmas
pub mod ExampleLemmas

pub mod SlotLemmas
pub mod LinkLemmas
pub mod ChainLemmas
pub mod ListLemmas
pub mod CountLemmas
pub mod SiftLemmas
pub mod StampLemmas
pub mod VersionLemmas

pub mod LookLemmas
pub mod FillLemmas
mod LoadLemmas
pub mod LeafArray
pub mod LeafArrayMade
pub mod VersionSegment

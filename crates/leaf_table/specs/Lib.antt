pub mod LeafArray
pub mod LeafArrayDeclared
pub mod VersionSegment
pub mod Settled

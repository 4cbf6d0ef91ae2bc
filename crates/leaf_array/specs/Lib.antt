pub mod Segments
pub mod Leaves
pub mod VersionSegment

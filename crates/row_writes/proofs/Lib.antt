pub mod KeyLemmas
pub mod WrittenLemmas
pub mod CheckLemmas
pub mod LayLemmas
pub mod VersionSegment
pub mod VersionSegmentMade

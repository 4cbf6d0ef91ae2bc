pub mod Written
pub mod Held
pub mod Checks
pub mod Laying
pub mod VersionSegment
pub mod VersionSegmentDeclared

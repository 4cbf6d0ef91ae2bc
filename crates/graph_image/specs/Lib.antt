pub mod Images
pub mod Edges
pub mod Building
pub mod Fields
pub mod Paths
pub mod Entries
pub mod Parts

pub mod Buckets
pub mod Certain
pub mod Distances
pub mod Search

pub mod Levels
pub mod PlaceSets
pub mod Frontiers
pub mod Rounds

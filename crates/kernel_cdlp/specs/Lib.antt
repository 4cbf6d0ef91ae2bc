pub mod Frequency
pub mod Rounds
pub mod Parts

pub mod Packed
pub mod PassSteps
pub mod PassSweeps

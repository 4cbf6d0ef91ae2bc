pub mod Pairs
pub mod Merging
pub mod Works
pub mod Turns
pub mod PassLeavesContracts

pub mod Faults
pub mod Files
pub mod MemoryDesk
pub mod Outputs
pub mod Refusals
pub mod Sources

pub mod Kernels
pub mod Scanning
pub mod Phases
pub mod Turns
pub mod Lines

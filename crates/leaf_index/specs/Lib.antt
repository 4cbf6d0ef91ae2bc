pub mod Hinted
pub mod Index
pub mod Idle
pub mod Slots
pub mod Calls

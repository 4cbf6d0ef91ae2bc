pub mod Running
pub mod Seats
pub mod Ended
pub mod SharedRuns
pub mod SharedStore

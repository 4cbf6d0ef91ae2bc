pub mod ByAccount
pub mod Driving
pub mod JobRunner
pub mod LineRunner

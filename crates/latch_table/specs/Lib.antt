pub mod Latched
pub mod Opening
pub mod Several
pub mod Places

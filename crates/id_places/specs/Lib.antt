pub mod Places
pub mod Within

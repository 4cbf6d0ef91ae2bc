pub mod Outcomes
pub mod Prepared
pub mod Laws

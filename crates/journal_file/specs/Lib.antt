pub mod Format
pub mod Reading
pub mod Keeping
pub mod Laws
pub mod Recovering

pub mod Draws
pub mod Kept
pub mod Texts
pub mod Laws

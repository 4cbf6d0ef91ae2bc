pub mod Showing
pub mod Counting

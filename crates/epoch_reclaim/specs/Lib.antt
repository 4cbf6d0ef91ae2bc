pub mod Pinned
pub mod PinLaws
pub mod Steps

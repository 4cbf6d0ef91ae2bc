pub mod Steps
pub mod Opening
pub mod Reads
pub mod Spelling
pub mod Notes

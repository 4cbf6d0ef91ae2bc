pub mod Disk
pub mod Crashes
pub mod Steps
pub mod MemoryDisk

pub mod Configured

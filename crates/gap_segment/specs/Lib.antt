pub mod Fenced

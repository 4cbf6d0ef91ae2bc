pub mod Sessions
pub mod Scanned
pub mod Retries

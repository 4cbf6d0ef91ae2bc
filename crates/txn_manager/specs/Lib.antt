pub mod Config
pub mod Manager
pub mod Histories
pub mod ManagerLaws

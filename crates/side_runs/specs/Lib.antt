pub mod ByAccount
pub mod SideBySide
pub mod Examples

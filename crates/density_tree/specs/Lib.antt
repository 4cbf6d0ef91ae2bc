pub mod Windows
pub mod Division
pub mod LimitLaws

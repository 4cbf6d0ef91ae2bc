pub mod Footprints
pub mod SerialTurns
pub mod SerialRun
pub mod Laws
pub mod Examples

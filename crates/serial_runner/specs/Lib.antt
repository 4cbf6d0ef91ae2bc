pub mod SerialRuns
pub mod JobRunner
pub mod TeseoCore

pub mod KeptLemmas
pub mod RunKeeper
pub mod SourceRun
pub mod TeseoProgram

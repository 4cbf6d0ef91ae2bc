pub mod Refusals
pub mod RunKeeper
pub mod SourceRun
pub mod SourceRunDeclared
pub mod TeseoProgram
pub mod TeseoProgramDeclared

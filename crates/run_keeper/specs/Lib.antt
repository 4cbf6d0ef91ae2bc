pub mod Keeping
pub mod Refusals
pub mod JobRunner
pub mod JournalFileDeclared

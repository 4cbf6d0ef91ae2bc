pub mod Texts
pub mod JournalFile
pub mod JournalFileDeclared

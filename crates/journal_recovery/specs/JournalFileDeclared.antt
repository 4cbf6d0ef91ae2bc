-- Modules of journal_file that crates above name.
pub use Rattle.journal_file.specs.declared.refusal

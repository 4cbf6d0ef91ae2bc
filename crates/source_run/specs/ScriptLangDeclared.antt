-- Modules of script_lang that crates above name.
pub use Rattle.script_lang.specs.declared.refusal

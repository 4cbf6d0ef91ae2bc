-- Modules of script_lang that crates above name.
pub use Rattle.script_lang.specs.Faults
pub use Rattle.script_lang.specs.FieldFaults
pub use Rattle.script_lang.specs.Runnable
pub use Rattle.script_lang.specs.Scripts

-- Modules of pass_steps that crates above name.
pub use Rattle.reader_parts.specs.PassSteps.Passes

-- Modules of pass_steps that crates above name.
pub use Rattle.pass_writes.specs.PassSteps.Passes

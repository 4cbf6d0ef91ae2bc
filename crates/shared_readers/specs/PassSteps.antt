-- Modules of pass_steps that crates above name.
pub use Rattle.optimistic_read.specs.PassSteps.Passes

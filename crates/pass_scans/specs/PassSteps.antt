-- Modules of pass_steps that crates above name.
pub use Rattle.pass_sweeps.specs.PassSteps.Asking

-- Modules of pass_steps that crates above name.
pub use Rattle.pass_sweeps.specs.PassSteps.Asking
pub use Rattle.pass_sweeps.specs.PassSteps.Notes
pub use Rattle.pass_sweeps.specs.PassSteps.Passes
pub use Rattle.pass_sweeps.specs.PassSteps.Txns

-- Modules of pass_steps that crates above name.
pub use Rattle.pass_steps.specs.Asking
pub use Rattle.pass_steps.specs.Notes
pub use Rattle.pass_steps.specs.Passes
pub use Rattle.pass_steps.specs.Txns

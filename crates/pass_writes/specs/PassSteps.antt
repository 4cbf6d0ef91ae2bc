-- Modules of pass_steps that crates above name.
pub use Rattle.pass_prunes.specs.PassSteps.Passes
pub use Rattle.pass_prunes.specs.PassSteps.Txns

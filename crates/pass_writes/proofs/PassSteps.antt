-- Modules of pass_steps that crates above name.
pub use Rattle.pass_prunes.proofs.PassSteps.PassLemmas
pub use Rattle.pass_prunes.proofs.PassSteps.SightLemmas

-- Modules of pass_steps that crates above name.
pub use Rattle.pass_sweeps.proofs.PassSteps.PassLemmas
pub use Rattle.pass_sweeps.proofs.PassSteps.SightLemmas
pub use Rattle.pass_sweeps.proofs.PassSteps.WriterLemmas

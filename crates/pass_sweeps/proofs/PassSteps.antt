-- Modules of pass_steps that crates above name.
pub use Rattle.pass_steps.proofs.PassLemmas
pub use Rattle.pass_steps.proofs.SightLemmas
pub use Rattle.pass_steps.proofs.WriterLemmas

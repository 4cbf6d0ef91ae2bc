-- Modules of pass_writes that crates above name.
pub use Rattle.pass_writes.proofs.HandLemmas

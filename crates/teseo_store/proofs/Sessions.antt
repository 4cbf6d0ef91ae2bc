-- Modules of sessions that crates above name.
pub use Rattle.sessions.proofs.PropLemmas

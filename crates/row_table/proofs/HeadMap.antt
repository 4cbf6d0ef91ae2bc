-- Modules of head_map that crates above name.
pub use Rattle.head_map.proofs.HeadLemmas
pub use Rattle.head_map.proofs.KeyedLemmas

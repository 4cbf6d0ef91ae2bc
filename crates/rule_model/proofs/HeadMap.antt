-- Modules of head_map that crates above name.
pub use Rattle.store_relation.proofs.HeadMap.HeadLemmas

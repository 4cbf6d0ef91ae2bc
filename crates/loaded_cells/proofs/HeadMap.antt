-- Modules of head_map that crates above name.
pub use Rattle.rule_model.proofs.HeadMap.HeadLemmas

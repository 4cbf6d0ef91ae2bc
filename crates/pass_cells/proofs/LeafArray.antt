-- Modules of leaf_array that crates above name.
pub use Rattle.store_rule.proofs.LeafArray.CountLemmas
pub use Rattle.store_rule.proofs.LeafArray.EightLemmas
pub use Rattle.store_rule.proofs.LeafArray.LeafLemmas
pub use Rattle.store_rule.proofs.LeafArray.PairLemmas

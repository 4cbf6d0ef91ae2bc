-- Modules of store_words that crates above name.
pub use Rattle.store_rule.proofs.StoreWords.SpellLemmas
pub use Rattle.store_rule.proofs.StoreWords.StepLemmas

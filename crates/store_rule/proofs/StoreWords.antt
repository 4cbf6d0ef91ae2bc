-- Modules of store_words that crates above name.
pub use Rattle.store_words.proofs.CellLemmas
pub use Rattle.store_words.proofs.NoteLemmas
pub use Rattle.store_words.proofs.SpellLemmas
pub use Rattle.store_words.proofs.StepLemmas

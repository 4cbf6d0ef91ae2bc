-- Modules of store_words that crates above name.
pub use Rattle.pass_steps.proofs.StoreWords.SpellLemmas

-- Modules of store_words that crates above name.
pub use Rattle.store_rule.specs.StoreWords.Notes
pub use Rattle.store_rule.specs.StoreWords.Spelling
pub use Rattle.store_rule.specs.StoreWords.Steps

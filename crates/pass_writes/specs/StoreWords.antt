-- Modules of store_words that crates above name.
pub use Rattle.pass_prunes.specs.StoreWords.Notes
pub use Rattle.pass_prunes.specs.StoreWords.Spelling
pub use Rattle.pass_prunes.specs.StoreWords.Steps

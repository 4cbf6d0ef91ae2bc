-- Modules of store_words that crates above name.
pub use Rattle.store_words.specs.Notes
pub use Rattle.store_words.specs.Reads
pub use Rattle.store_words.specs.Spelling
pub use Rattle.store_words.specs.Steps

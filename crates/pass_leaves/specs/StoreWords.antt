-- Modules of store_words that crates above name.
pub use Rattle.pass_cells.specs.StoreWords.Spelling
pub use Rattle.pass_cells.specs.StoreWords.Steps

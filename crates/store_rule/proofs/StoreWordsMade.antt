-- Modules of store_words that crates above name.
pub use Rattle.store_words.proofs.accounts.Accounts

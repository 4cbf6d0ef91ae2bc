-- Modules of store_words that crates above name.
pub use Rattle.store_rule.proofs.StoreWordsMade.Accounts

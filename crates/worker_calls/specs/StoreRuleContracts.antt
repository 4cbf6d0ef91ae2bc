-- Modules of store_rule that crates above name.
pub use Rattle.reader_parts.specs.StoreRuleContracts.store

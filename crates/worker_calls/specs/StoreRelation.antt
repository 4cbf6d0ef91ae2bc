-- Modules of store_relation that crates above name.
pub use Rattle.reader_parts.specs.StoreRelation.Loads
pub use Rattle.reader_parts.specs.StoreRelation.Passes

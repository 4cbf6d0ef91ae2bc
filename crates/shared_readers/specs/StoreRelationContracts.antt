-- Modules of store_relation that crates above name.
pub use Rattle.optimistic_read.specs.StoreRelationContracts.stage

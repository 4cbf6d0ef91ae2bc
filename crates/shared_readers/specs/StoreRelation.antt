-- Modules of store_relation that crates above name.
pub use Rattle.optimistic_read.specs.StoreRelation.Keys
pub use Rattle.optimistic_read.specs.StoreRelation.Loads
pub use Rattle.optimistic_read.specs.StoreRelation.Passes
pub use Rattle.optimistic_read.specs.StoreRelation.Readers
pub use Rattle.optimistic_read.specs.StoreRelation.Steps

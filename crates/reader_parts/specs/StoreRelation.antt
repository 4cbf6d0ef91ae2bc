-- Modules of store_relation that crates above name.
pub use Rattle.shared_readers.specs.StoreRelation.Keys
pub use Rattle.shared_readers.specs.StoreRelation.Loads
pub use Rattle.shared_readers.specs.StoreRelation.Passes
pub use Rattle.shared_readers.specs.StoreRelation.Readers
pub use Rattle.shared_readers.specs.StoreRelation.Steps

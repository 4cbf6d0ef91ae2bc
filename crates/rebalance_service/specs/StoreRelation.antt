-- Modules of store_relation that crates above name.
pub use Rattle.worker_calls.specs.StoreRelation.Loads
pub use Rattle.worker_calls.specs.StoreRelation.Passes

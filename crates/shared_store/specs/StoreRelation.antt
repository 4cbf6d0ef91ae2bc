-- Modules of store_relation that crates above name.
pub use Rattle.pass_writes.specs.StoreRelation.Ends
pub use Rattle.pass_writes.specs.StoreRelation.Passes
pub use Rattle.pass_writes.specs.StoreRelation.Shared

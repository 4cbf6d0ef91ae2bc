-- Modules of store_relation that crates above name.
pub use Rattle.pass_prunes.specs.StoreRelation.Ends
pub use Rattle.pass_prunes.specs.StoreRelation.Keys
pub use Rattle.pass_prunes.specs.StoreRelation.Loads
pub use Rattle.pass_prunes.specs.StoreRelation.Passes
pub use Rattle.pass_prunes.specs.StoreRelation.Shared
pub use Rattle.pass_prunes.specs.StoreRelation.Steps

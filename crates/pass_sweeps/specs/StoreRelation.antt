-- Modules of store_relation that crates above name.
pub use Rattle.pass_steps.specs.StoreRelation.Keys
pub use Rattle.pass_steps.specs.StoreRelation.Passes
pub use Rattle.pass_steps.specs.StoreRelation.Steps

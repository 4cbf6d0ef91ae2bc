-- Modules of store_relation that crates above name.
pub use Rattle.pass_steps.specs.StoreRelationDeclared.stage

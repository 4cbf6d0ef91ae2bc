-- Modules of store_relation that crates above name.
pub use Rattle.pass_prunes.specs.StoreRelationDeclared.stage

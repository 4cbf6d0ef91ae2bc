-- Modules of store_relation that crates above name.
pub use Rattle.loaded_cells.specs.StoreRelationDeclared.stage

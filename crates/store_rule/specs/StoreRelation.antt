-- Modules of store_relation that crates above name.
pub use Rattle.loaded_cells.specs.StoreRelation.AccountLaws
pub use Rattle.loaded_cells.specs.StoreRelation.CheckLaws
pub use Rattle.loaded_cells.specs.StoreRelation.Ends
pub use Rattle.loaded_cells.specs.StoreRelation.Keys
pub use Rattle.loaded_cells.specs.StoreRelation.Loads
pub use Rattle.loaded_cells.specs.StoreRelation.Passes
pub use Rattle.loaded_cells.specs.StoreRelation.ReadLaws
pub use Rattle.loaded_cells.specs.StoreRelation.Readers
pub use Rattle.loaded_cells.specs.StoreRelation.Rows
pub use Rattle.loaded_cells.specs.StoreRelation.Shared
pub use Rattle.loaded_cells.specs.StoreRelation.Steps
pub use Rattle.loaded_cells.specs.StoreRelation.Words

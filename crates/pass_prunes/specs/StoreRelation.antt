-- Modules of store_relation that crates above name.
pub use Rattle.pass_cells.specs.StoreRelation.CheckLaws
pub use Rattle.pass_cells.specs.StoreRelation.Ends
pub use Rattle.pass_cells.specs.StoreRelation.Keys
pub use Rattle.pass_cells.specs.StoreRelation.Loads
pub use Rattle.pass_cells.specs.StoreRelation.Passes
pub use Rattle.pass_cells.specs.StoreRelation.Readers
pub use Rattle.pass_cells.specs.StoreRelation.Rows
pub use Rattle.pass_cells.specs.StoreRelation.Shared
pub use Rattle.pass_cells.specs.StoreRelation.Steps
pub use Rattle.pass_cells.specs.StoreRelation.Words

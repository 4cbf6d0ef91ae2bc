-- Modules of store_relation that crates above name.
pub use Rattle.store_relation.specs.AccountLaws
pub use Rattle.store_relation.specs.CheckLaws
pub use Rattle.store_relation.specs.Ends
pub use Rattle.store_relation.specs.Keys
pub use Rattle.store_relation.specs.Loads
pub use Rattle.store_relation.specs.Passes
pub use Rattle.store_relation.specs.ReadLaws
pub use Rattle.store_relation.specs.Readers
pub use Rattle.store_relation.specs.Rows
pub use Rattle.store_relation.specs.Shared
pub use Rattle.store_relation.specs.Steps
pub use Rattle.store_relation.specs.Words

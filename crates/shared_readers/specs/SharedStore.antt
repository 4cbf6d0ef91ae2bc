-- Modules of shared_store that crates above name.
pub use Rattle.shared_store.specs.Ends
pub use Rattle.shared_store.specs.Loading
pub use Rattle.shared_store.specs.Passes
pub use Rattle.shared_store.specs.Totals
pub use Rattle.shared_store.specs.Writes

-- Modules of shared_store that crates above name.
pub use Rattle.shared_readers.specs.SharedStore.Ends
pub use Rattle.shared_readers.specs.SharedStore.Loading
pub use Rattle.shared_readers.specs.SharedStore.Passes
pub use Rattle.shared_readers.specs.SharedStore.Totals
pub use Rattle.shared_readers.specs.SharedStore.Writes

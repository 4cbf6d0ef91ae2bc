-- Modules of shared_store that crates above name.
pub use Rattle.reader_parts.specs.SharedStore.Ends
pub use Rattle.reader_parts.specs.SharedStore.Loading
pub use Rattle.reader_parts.specs.SharedStore.Passes
pub use Rattle.reader_parts.specs.SharedStore.Totals

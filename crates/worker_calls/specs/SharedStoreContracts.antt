-- Modules of shared_store that crates above name.
pub use Rattle.reader_parts.specs.SharedStoreContracts.pass

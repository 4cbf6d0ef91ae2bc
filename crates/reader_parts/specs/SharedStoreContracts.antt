-- Modules of shared_store that crates above name.
pub use Rattle.shared_readers.specs.SharedStoreContracts.pass

-- Modules of shared_store that crates above name.
pub use Rattle.shared_store.specs.declared.load
pub use Rattle.shared_store.specs.declared.pass

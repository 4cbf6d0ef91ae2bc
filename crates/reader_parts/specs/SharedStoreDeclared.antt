-- Modules of shared_store that crates above name.
pub use Rattle.shared_readers.specs.SharedStoreDeclared.load
pub use Rattle.shared_readers.specs.SharedStoreDeclared.pass

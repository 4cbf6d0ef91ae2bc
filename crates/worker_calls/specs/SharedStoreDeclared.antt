-- Modules of shared_store that crates above name.
pub use Rattle.reader_parts.specs.SharedStoreDeclared.load
pub use Rattle.reader_parts.specs.SharedStoreDeclared.pass

-- Modules of shared_store that crates above name.
pub use Rattle.worker_calls.specs.SharedStoreDeclared.load
pub use Rattle.worker_calls.specs.SharedStoreDeclared.pass

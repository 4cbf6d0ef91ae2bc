-- Modules of shared_store that crates above name.
pub use Rattle.rebalance_service.specs.SharedStoreDeclared.pass

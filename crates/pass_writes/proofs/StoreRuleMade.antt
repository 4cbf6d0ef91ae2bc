-- Modules of store_rule that crates above name.
pub use Rattle.pass_prunes.proofs.StoreRuleMade.Buffers

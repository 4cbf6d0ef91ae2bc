-- Modules of store_relation that crates above name.
pub use Rattle.shared_readers.proofs.StoreRelation.ListLemmas

-- Modules of head_map that crates above name.
pub use Rattle.row_table.proofs.HeadMap.HeadLemmas

pub mod ListLemmas
pub mod TreeLemmas

pub mod RangeLemmas
pub mod PutLemmas

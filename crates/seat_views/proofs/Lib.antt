pub mod NumberLemmas
pub mod KeepLemmas

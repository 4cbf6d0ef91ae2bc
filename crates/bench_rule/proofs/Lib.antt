pub mod EaseLemmas

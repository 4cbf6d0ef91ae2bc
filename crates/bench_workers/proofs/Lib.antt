pub mod HireLemmas
pub mod RoundLemmas

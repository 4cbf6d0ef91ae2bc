pub mod AppLemmas
pub mod NameLemmas
pub mod NumberLemmas
pub mod TakesLaw
pub mod WordLemmas

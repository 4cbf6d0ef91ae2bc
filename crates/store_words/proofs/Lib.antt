pub mod StepLemmas
pub mod CellLemmas
pub mod SpellLemmas
pub mod LoadLemmas
pub mod ReadLemmas
pub mod NoteLemmas
pub mod OpeningLemmas

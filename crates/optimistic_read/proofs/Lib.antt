pub mod LoadLemmas
pub mod DecodeLemmas
pub mod TryLemmas
pub mod RunLemmas
pub mod AnswerLemmas
pub mod RouteLemmas
pub mod StoreRelation

pub mod FilesLemmas
pub mod OutputLemmas
pub mod PlaceLemmas
pub mod SourceLemmas

mod SublistLemmas
mod FileLemmas
mod TextLemmas
mod NameLemmas
mod SinkLemmas
mod SerialRunLemmas
pub mod PreparedLemmas
pub mod LawLemmas
pub mod OutcomeLemmas
pub mod RoomLawLemmas
pub mod NamedLemmas
pub mod EndLemmas
pub mod SourceRun

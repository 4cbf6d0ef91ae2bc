pub mod HandLemmas
pub mod FullLemmas
pub mod LawLemmas
pub mod PassCellsMade
pub mod PassSweeps
pub mod PassWrites

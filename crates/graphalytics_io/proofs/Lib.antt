pub mod FieldsLemmas
pub mod NumberLemmas
mod PiecesLemmas

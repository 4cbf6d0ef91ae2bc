pub mod LabelLemmas
pub mod TableLemmas

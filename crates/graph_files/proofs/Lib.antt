pub mod WeightLemmas
pub mod EdgeLemmas
pub mod UnrepeatedLemmas
pub mod SecondLemmas
pub mod LoadLemmas
pub mod FileLemmas
pub mod HalvesLemmas

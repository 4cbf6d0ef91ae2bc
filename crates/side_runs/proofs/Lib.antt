pub mod MadeLemmas
pub mod TellLemmas
pub mod StepByLemmas
pub mod SeriesLemmas
pub mod RightLemmas
pub mod ClosingLemmas
pub mod FirstLemmas
pub mod ExampleLemmas

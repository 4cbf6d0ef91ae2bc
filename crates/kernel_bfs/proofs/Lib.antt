pub mod SpreadLemmas
pub mod LevelLemmas
pub mod PlaceSetLemmas
pub mod FrontierLemmas
pub mod TableLemmas

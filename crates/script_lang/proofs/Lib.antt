pub mod EarlyLemmas
pub mod PlaceLemmas
pub mod FaultLemmas
pub mod LineLemmas
pub mod ResultLemmas
pub mod ScriptLemmas

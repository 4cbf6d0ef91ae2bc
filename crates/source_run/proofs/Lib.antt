pub mod RequestLemmas
pub mod InputLemmas
pub mod RunLemmas
pub mod LeavesLemmas
pub mod ThreadLemmas
pub mod SerialRunner

pub mod WordLemmas
pub mod RunLemmas
pub mod RecoveryLemmas
pub mod LawLemmas
pub mod FaultLemmas
pub mod StatusLemmas

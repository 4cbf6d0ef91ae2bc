pub mod OpenLemmas
pub mod PassLemmas
pub mod RebalanceService

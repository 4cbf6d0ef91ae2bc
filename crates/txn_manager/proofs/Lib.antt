pub mod HistoryLemmas
pub mod ViewLemmas
pub mod CountLemmas
pub mod ManagerLemmas
pub mod OpenLemmas
pub mod HorizonLemmas

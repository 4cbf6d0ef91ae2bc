pub mod Hand
pub mod Looks
pub mod Readers
pub mod Runs
pub mod RuleModel
pub mod PassCellsContracts

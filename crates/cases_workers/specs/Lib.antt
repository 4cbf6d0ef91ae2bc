pub mod Cases
pub mod RebalanceService
pub mod RuleModel
pub mod SharedStore
pub mod SharedStoreDeclared
pub mod StoreRuleDeclared

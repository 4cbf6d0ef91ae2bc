pub mod Visits
pub mod LoadedCells
pub mod RuleModel
pub mod StoreRelation
pub mod StoreRule
pub mod StoreRuleDeclared

-- Modules of rule_model that crates above name.
pub use Rattle.loaded_cells.specs.RuleModel.BlockSteps
pub use Rattle.loaded_cells.specs.RuleModel.EndSteps
pub use Rattle.loaded_cells.specs.RuleModel.MoveSteps
pub use Rattle.loaded_cells.specs.RuleModel.NoteSteps
pub use Rattle.loaded_cells.specs.RuleModel.PinSteps
pub use Rattle.loaded_cells.specs.RuleModel.Places
pub use Rattle.loaded_cells.specs.RuleModel.RowSteps
pub use Rattle.loaded_cells.specs.RuleModel.Rule
pub use Rattle.loaded_cells.specs.RuleModel.Sight
pub use Rattle.loaded_cells.specs.RuleModel.Steps
pub use Rattle.loaded_cells.specs.RuleModel.StoreRelation
pub use Rattle.loaded_cells.specs.RuleModel.TxnSteps
pub use Rattle.loaded_cells.specs.RuleModel.ViewSteps

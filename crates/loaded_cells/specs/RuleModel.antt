-- Modules of rule_model that crates above name.
pub use Rattle.rule_model.specs.BlockSteps
pub use Rattle.rule_model.specs.EndSteps
pub use Rattle.rule_model.specs.LastSteps
pub use Rattle.rule_model.specs.MoveSteps
pub use Rattle.rule_model.specs.NoteSteps
pub use Rattle.rule_model.specs.PinSteps
pub use Rattle.rule_model.specs.Places
pub use Rattle.rule_model.specs.RowSteps
pub use Rattle.rule_model.specs.Rule
pub use Rattle.rule_model.specs.Sight
pub use Rattle.rule_model.specs.Steps
pub use Rattle.rule_model.specs.StoreRelation
pub use Rattle.rule_model.specs.TxnSteps
pub use Rattle.rule_model.specs.ViewSteps

-- Modules of rule_model that crates above name.
pub use Rattle.pass_cells.specs.RuleModel.NoteSteps
pub use Rattle.pass_cells.specs.RuleModel.Places
pub use Rattle.pass_cells.specs.RuleModel.RowSteps
pub use Rattle.pass_cells.specs.RuleModel.Sight
pub use Rattle.pass_cells.specs.RuleModel.Steps

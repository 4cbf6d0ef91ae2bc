use Rattle.cells_model.proofs.WordLemmas.{head_is_told, row_is_told, value_is_told, no_row_is_told}
use Rattle.cells_model.proofs.laws.blocks_tell_rows.Goals as goal

pub returns-clause-head : goal.returns-clause-head
returns-clause-head c = head_is_told

pub returns-clause-row : goal.returns-clause-row
returns-clause-row c = row_is_told

pub returns-clause-value : goal.returns-clause-value
returns-clause-value c = value_is_told

pub returns-clause-no_row : goal.returns-clause-no_row
returns-clause-no_row c = no_row_is_told

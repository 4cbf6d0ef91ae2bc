use Rattle.std.proofs.Common.{◌≡◌, ◌++◌, take}
use Rattle.rule_model.specs.CellsModel.Words.{flat}
use Rattle.loaded_cells.proofs.words.push_rows.Given as goal

abbrev pub invariant-rows : goal.invariant-rows
invariant-rows l = l.words.items ≡ l.fn.words.items ++ flat (take l.place l.rows)

use Rattle.std.proofs.Common.{◌≡◌, ◌≤◌, length, take}
use Rattle.rule_model.specs.CellsModel.Cells.{CellState}
use Rattle.rule_model.specs.VersionSegment.Resting.{word_rows}
use Rattle.rule_model.specs.Sight.{HasCell}
use Rattle.store_words.specs.Steps.{Knows}
use Rattle.store_words.proofs.accounts.Accounts.load_rows.Given as goal

abbrev pub invariant-rows : goal.invariant-rows
invariant-rows l = Knows l.fn.seat l.seat l.fn.seat.me.0
    × (length l.rows ≤ l.place)
    × ((c : CellState) → HasCell l.fn.seat.me.0 l.cell c → l.rows ≡ take l.place (word_rows c.segment))

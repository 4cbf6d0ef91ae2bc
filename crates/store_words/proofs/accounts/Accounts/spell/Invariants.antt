use Rattle.std.proofs.Common.{◌≡◌, ◌+◌, ◌*◌, true}
use Rattle.rule_model.specs.CellsModel.Cells.{CellState}
use Rattle.rule_model.specs.Sight.{HasCell}
use Rattle.store_words.specs.Spelling.{IsSpelling, Stays}
use Rattle.store_words.proofs.accounts.Accounts.spell.Given as goal

abbrev pub invariant-rows : goal.invariant-rows
invariant-rows l = Stays l.fn.seat l.seat
    × ((c : CellState) × HasCell l.seat.me.0 l.cell c × (c.unpacked ≡ true))
    × ((c : CellState) → HasCell l.fn.seat.me.0 l.cell c
    → IsSpelling l.cell l.fn.seat.me.0 c l.fn.low l.fn.high l.rows (5 + 3 * l.place) l.seat.me.0)

use Rattle.std.proofs.Common.{◌≡◌, ◌≤◌, length, true}
use Rattle.pass_sweeps.specs.VersionSegment.Rows.{VersionedRows}
use Rattle.pass_sweeps.specs.CellsModel.Cells.{CellState}
use Rattle.pass_sweeps.specs.RuleModel.Sight.{HasCell}
use Rattle.pass_sweeps.specs.StoreWords.Spelling.{Stays}
use Rattle.pass_sweeps.specs.StoreRule.Slots.{RestsAs}
use Rattle.pass_settles.specs.Marks.{HasValues, IsClearing, IsHalfSettled}
use Rattle.pass_settles.proofs.marks.clear_marks.Given as goal

abbrev pub invariant-marks : goal.invariant-marks
invariant-marks l = Stays l.fn.seat l.seat
    × (l.end ≤ length l.resting.rows)
    × ((c : CellState) × HasCell l.seat.me.0 l.cell c × (c.unpacked ≡ true))
    × ((c : CellState) (s : VersionedRows) → HasCell l.fn.seat.me.0 l.cell c → c.unpacked ≡ true
    → HasValues s → RestsAs s l.resting → IsHalfSettled s (length s.rows) c.block
    → IsClearing l.cell s l.end l.fn.seat.me.0 c l.seat.me.0)

abbrev pub decreases-marks : goal.decreases-marks
decreases-marks l = l.end

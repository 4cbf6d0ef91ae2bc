use Rattle.std.proofs.Common.{◌≡◌, ◌++◌, List, length}
use Rattle.std.specs.Prelude.{reverse}
use Rattle.loaded_cells.specs.VersionSegment.Resting.{RestingRows}
use Rattle.store_rule.specs.Making.{AreCells, IsLaying}
use Rattle.store_rule.proofs.make.push_cells.Given as goal

abbrev pub invariant-cells : goal.invariant-cells
invariant-cells l =
    IsLaying l.accounts.config l.accounts.table.shared.table_id l.fn.seat.me.0 l.cell l.seat
    × (length l.slots.items ≡ l.cell) × AreCells l.accounts.table.shared.table_id l.slots.items
    × ((front : List RestingRows) × (l.fn.resting.items ≡ front ++ reverse l.rest.items) × (length front ≡ l.cell))

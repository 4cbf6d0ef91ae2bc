use Rattle.std.proofs.Common.{◌≡◌, ℕ, ◌+◌, ◌-◌, drop, length}
use Rattle.std.specs.Prelude.{true}
use Rattle.pass_cells.specs.Taken.{IsPlace, has_cell}
use Rattle.pass_cells.proofs.taken.TakenCells.place_of.Given as goal

-- none of the cells so far covers the key, and one of the others does
abbrev pub invariant-cells : goal.invariant-cells
invariant-cells l = ((p : ℕ) → IsPlace (drop l.place l.cells) l.key p → IsPlace l.cells l.key (l.place + p))
    × (has_cell (drop l.place l.cells) l.key ≡ true)

abbrev pub decreases-cells : goal.decreases-cells
decreases-cells l = length l.cells - l.place

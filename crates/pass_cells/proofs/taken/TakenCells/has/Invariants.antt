use Rattle.std.proofs.Common.{◌≡◌, take}
use Rattle.std.specs.Prelude.{false}
use Rattle.pass_cells.specs.Taken.{has_cell}
use Rattle.pass_cells.proofs.taken.TakenCells.has.Given as goal

-- none of the cells so far covers the key
abbrev pub invariant-cells : goal.invariant-cells
invariant-cells l = has_cell (take l.place l.cells) l.key ≡ false

use Rattle.std.proofs.Common.{◌≡◌, take}
use Rattle.std.specs.Prelude.{false}
use Rattle.pass_cells.specs.Taken.{is_taken}
use Rattle.pass_cells.proofs.taken.TakenCells.is_taken.Given as goal

-- none of the cells so far has the number
abbrev pub invariant-cells : goal.invariant-cells
invariant-cells l = is_taken l.cell (take l.place l.cells) ≡ false

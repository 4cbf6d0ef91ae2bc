use Rattle.std.proofs.Common.{◌≡◌, ◌++◌, take, drop}
use Rattle.std.specs.Vec.{vec_capacity}
use Rattle.pass_cells.specs.Taken.{counted}
use Rattle.pass_cells.proofs.taken.TakenCells.count_rows.Given as goal

-- so many are counted
abbrev pub invariant-cells : goal.invariant-cells
invariant-cells l = (l.self.list.items ≡ counted
    (take l.place l.fn.self.list.items) ++ drop l.place l.fn.self.list.items)
    × (vec_capacity l.self.list ≡ vec_capacity l.fn.self.list)

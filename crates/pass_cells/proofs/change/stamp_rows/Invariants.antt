use Rattle.std.proofs.Common.{◌≤◌, take}
use Rattle.pass_cells.specs.Changes.{StampsRows}
use Rattle.pass_cells.specs.Taken.{KeepsTaken, rows_come}
use Rattle.pass_cells.proofs.change.stamp_rows.Given as goal

-- the rows of the keys so far are stamped
abbrev pub invariant-keys : goal.invariant-keys
invariant-keys l = StampsRows l.by l.number (take l.place l.keys) l.fn.taken.list.items l.taken.list.items
    × KeepsTaken l.fn.taken l.taken × (rows_come l.taken.list.items ≤ rows_come l.fn.taken.list.items)

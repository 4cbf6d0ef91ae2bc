use Rattle.row_writes.proofs.LayLemmas.{allows_first, allows_second, row_held}
use Rattle.row_writes.proofs.laying.put_written.Goals as goal

pub change-requires-clause-may : goal.change-requires-clause-may
change-requires-clause-may g c =
    let rows = c.args.found.now.rows in
    let held = row_held (g.C.HeldCells.rows c.args.cells.now) rows.back rows.row c.requires.held in
    allows_first (g.C.HeldCells.rows c.args.cells.now) rows.row (c.keys_lie_in_cells.ensures rows.row held) rows.back c.requires.spare c.requires.room

pub change-requires-in-Some-clause-may : goal.change-requires-in-Some-clause-may
change-requires-in-Some-clause-may g c =
    let rows = c.args.found.now.rows in
    let spare = rw c.in-Some.is at c.requires.spare in
    let room = rw c.in-Some.is at c.requires.room in
    let apart = rw c.in-Some.is at c.requires.rows.back in
    let held = rw c.in-Some.is at c.requires.held in
    allows_second c.args.by rows.value (g.C.HeldCells.rows c.args.cells.now) (g.C.HeldCells.rows c.change.new.self) c.in-Some.back rows.row (c.keys_lie_in_cells.ensures c.in-Some.back held.0) apart spare room c.change.ensures.changed

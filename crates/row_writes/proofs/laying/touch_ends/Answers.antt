use Rattle.std.proofs.Common.{refl}
use Rattle.row_writes.proofs.LayLemmas.{touched_both}
use Rattle.row_writes.proofs.laying.touch_ends.Goals as goal

pub returns-in-Some-clause-touches : goal.returns-in-Some-clause-touches
returns-in-Some-clause-touches g c =
    let rows = c.args.found.now.rows in
    let ends = c.in-Some.ends in
    let apart = rw c.in-Some.is at c.requires.rows.ends in
    let have = rw (c.in-Some.is, c.if-found.true) at c.requires.ends in
    touched_both c.args.by c.args.earlier (g.C.HeldCells.rows c.args.cells.now) (g.C.HeldCells.rows c.change.new.self) (g.C.HeldCells.rows c.change-in-Some.new.self) ends.source ends.target apart have.0 have.1.0 c.change.ensures.changed c.change-in-Some.ensures.changed rows ends c.in-Some.is c.if-found.true refl refl

use Rattle.std.proofs.Common.{arith}
use Rattle.row_table.proofs.ShareLemmas.{dropped_records}
use Rattle.version_segment.proofs.segment.VersionSegment.move_right.Goals as goal

pub give-requires-clause-spare : goal.give-requires-clause-spare
give-requires-clause-spare c =
    let count = rw c.segment.ensures at c.len.ensures.len in
    let fits = rw (← c.self.view_is, ← c.right.view_is) at c.requires.spare in
    omega (arith, fits, dropped_records c.self.inside.rows.fenced c.self.inside.rows.heads c.self.inside.chains c.args.rows c.len.result count)

pub returns-clause-used : goal.returns-clause-used
returns-clause-used c =
    let count = rw c.segment.ensures at c.len.ensures.len in
    rw (← c.self.view_is, ← c.right.view_is)
    (omega (arith, c.give.ensures.spare.used, dropped_records c.self.inside.rows.fenced c.self.inside.rows.heads c.self.inside.chains c.args.rows c.len.result count))

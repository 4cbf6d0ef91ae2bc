use Rattle.std.proofs.Common.{arith}
use Rattle.row_table.proofs.ShareLemmas.{taken_records}
use Rattle.version_segment.proofs.segment.VersionSegment.move_left.Goals as goal

pub take-requires-clause-spare : goal.take-requires-clause-spare
take-requires-clause-spare c =
    let fits = rw (← c.self.view_is, ← c.right.view_is) at c.requires.spare in
    omega (arith, fits, taken_records c.right.inside.rows.fenced c.right.inside.rows.heads c.right.inside.chains c.args.rows)

pub returns-clause-used : goal.returns-clause-used
returns-clause-used c =
    rw (← c.self.view_is, ← c.right.view_is)
    (omega (arith, c.take.ensures.spare.used, taken_records c.right.inside.rows.fenced c.right.inside.rows.heads c.right.inside.chains c.args.rows))

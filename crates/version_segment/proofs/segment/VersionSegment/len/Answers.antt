use Rattle.std.proofs.Common.{arith}
use Rattle.row_table.proofs.ChangeLemmas.{row_count}
use Rattle.version_segment.proofs.SegmentLemmas.{is_segment}
use Rattle.version_segment.proofs.segment.VersionSegment.len.Goals as goal

pub returns-clause-sound : goal.returns-clause-sound
returns-clause-sound c =
    let count = row_count c.self.inside.rows.fenced c.self.inside.rows.heads c.self.inside.chains in
    rw (← c.self.view_is) (is_segment c.self.inside.rows.fenced c.self.inside.rows.heads c.self.inside.chains c.self.invariant (omega (arith, count, rw c.segment.ensures at c.len.ensures.len, c.len.ensures.small)))

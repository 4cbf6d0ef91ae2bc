use Rattle.std.proofs.Common.{◌≡◌, ◌+◌}
use Rattle.row_table.specs.Walks.{IsFilled}
use Rattle.version_segment.proofs.segment.VersionSegment.run_at.Given as goal

abbrev pub invariant-rows : goal.invariant-rows
invariant-rows g l =
    (l.place ≡ l.initial.place + l.row-index)
    × IsFilled l.self-inside.chains l.self-inside.rows.heads.entries (g.S.States.knowledge l.initial.states) (g.S.States.knowledge l.states) l.snapshot l.run l.row-index l.buffer

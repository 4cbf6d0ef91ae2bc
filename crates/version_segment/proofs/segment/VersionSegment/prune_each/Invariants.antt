use Rattle.row_table.specs.UndoChain.States.{Grows}
use Rattle.row_table.specs.Walks.{ArePruned}
use Rattle.version_segment.proofs.segment.VersionSegment.prune_each.Given as goal

abbrev pub invariant-rows : goal.invariant-rows
invariant-rows g l =
    ArePruned (g.S.States.knowledge l.initial.states).stamps l.horizon l.place l.initial.self-inside.rows.fenced l.self-inside.rows.fenced
    l.initial.self-inside.rows.heads l.self-inside.rows.heads l.initial.self-inside.chains l.self-inside.chains
    × Grows (g.S.States.knowledge l.initial.states) (g.S.States.knowledge l.states)

abbrev pub decreases-rows : goal.decreases-rows
decreases-rows g l = l.place

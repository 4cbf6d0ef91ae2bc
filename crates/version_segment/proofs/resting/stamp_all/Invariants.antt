use Rattle.std.proofs.Common.{◌≡◌}
use Rattle.row_table.specs.HeadMap.Heads.{heads_placed}
use Rattle.version_segment.specs.RestingParts.{StampsFrom}
use Rattle.version_segment.proofs.resting.stamp_all.Given as goal

-- in the rows from the end on the records have their stamp
abbrev pub invariant-rows : goal.invariant-rows
invariant-rows l = StampsFrom l.by l.stamp (heads_placed l.initial.heads.heads.entries) l.end l.initial.heads.chains l.heads.chains
    × (l.heads.heads ≡ l.initial.heads.heads) × (l.heads.count ≡ l.initial.heads.count)

abbrev pub decreases-rows : goal.decreases-rows
decreases-rows l = l.end

use Rattle.std.proofs.Common.{ℕ, ◌<◌, ◌≤◌}
use Rattle.row_table.specs.HeadMap.Heads.{heads_placed}
use Rattle.version_segment.specs.RestingParts.{PlaceSettles}
use Rattle.version_segment.proofs.resting.settle_all.Given as goal

abbrev pub invariant-rows : goal.invariant-rows
invariant-rows l = (p : ℕ) → l.end ≤ p → p < l.heads.count → PlaceSettles l.by l.horizon l.heads.chains (heads_placed l.heads.heads.entries p)

abbrev pub decreases-rows : goal.decreases-rows
decreases-rows l = l.end

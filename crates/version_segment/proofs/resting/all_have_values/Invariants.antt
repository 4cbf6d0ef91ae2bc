use Rattle.std.proofs.Common.{◌≡◌, ℕ, ◌<◌, ◌≤◌}
use Rattle.std.specs.Prelude.{true}
use Rattle.row_table.specs.HeadMap.Heads.{heads_placed}
use Rattle.version_segment.proofs.resting.all_have_values.Given as goal

abbrev pub invariant-rows : goal.invariant-rows
invariant-rows l = (p : ℕ) → l.end ≤ p → p < l.heads.count → (heads_placed l.heads.heads.entries p).has_value ≡ true

abbrev pub decreases-rows : goal.decreases-rows
decreases-rows l = l.end

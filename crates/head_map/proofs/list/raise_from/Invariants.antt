use Rattle.std.proofs.Common.{◌≡◌, ◌≤◌, length}
use Rattle.std.specs.Vec.{vec_capacity}
use Rattle.head_map.specs.Heads.{changed_from, raised_row}
use Rattle.head_map.proofs.list.raise_from.Given as goal

abbrev pub invariant-raise : goal.invariant-raise
invariant-raise l = (l.at ≤ length l.initial.rows.items) × (l.index ≤ l.at) × (l.rows.items ≡ changed_from l.at (raised_row l.by) l.initial.rows.items) × (vec_capacity l.rows ≡ vec_capacity l.initial.rows)

abbrev pub decreases-raise : goal.decreases-raise
decreases-raise l = l.at

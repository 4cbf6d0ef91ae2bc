use Rattle.std.proofs.Common.{◌≡◌, ◌≤◌, length}
use Rattle.std.specs.Vec.{vec_capacity}
use Rattle.head_map.specs.Heads.{changed_from, lowered_row}
use Rattle.head_map.proofs.list.lower_from.Given as goal

abbrev pub invariant-lower : goal.invariant-lower
invariant-lower l = (l.at ≤ length l.initial.rows.items) × (l.index ≤ l.at) × (l.rows.items ≡ changed_from l.at (lowered_row l.by) l.initial.rows.items) × (vec_capacity l.rows ≡ vec_capacity l.initial.rows)

abbrev pub decreases-lower : goal.decreases-lower
decreases-lower l = l.at

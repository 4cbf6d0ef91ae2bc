use Rattle.std.proofs.Common.{◌≤◌, ◌+◌, length}
use Rattle.std.specs.Vec.{vec_capacity}
use Rattle.pass_cells.specs.Holding.{IsPutting}
use Rattle.pass_cells.proofs.put_back.pack_all.Given as goal

-- those that are packed, and those that are left
abbrev pub invariant-cells : goal.invariant-cells
invariant-cells l = IsPutting l.store l.fn.pass l.pass l.fn.taken.list.items l.taken.list.items l.packed.items
    × (length l.packed.items + length l.taken.list.items ≤ 4)
    × (vec_capacity l.fn.taken.list ≤ vec_capacity l.taken.list)
    × (4 ≤ vec_capacity l.packed) × (vec_capacity l.fn.packed ≤ vec_capacity l.packed)

abbrev pub decreases-cells : goal.decreases-cells
decreases-cells l = length l.taken.list.items

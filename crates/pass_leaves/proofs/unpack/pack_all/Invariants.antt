use Rattle.std.proofs.Common.{◌≤◌, ◌+◌, length}
use Rattle.std.specs.Vec.{vec_capacity}
use Rattle.pass_cells.specs.Holding.{IsPutting}
use Rattle.pass_leaves.proofs.unpack.pack_all.Given as goal

-- those that are packed, and those that are left
abbrev pub invariant-places : goal.invariant-places
invariant-places l = IsPutting l.store l.fn.pass l.pass l.fn.cells.items l.cells.items l.packed.items
    × (length l.packed.items + length l.cells.items ≤ 16)
    × (vec_capacity l.fn.cells ≤ vec_capacity l.cells)
    × (17 ≤ vec_capacity l.packed) × (vec_capacity l.fn.packed ≤ vec_capacity l.packed)

abbrev pub decreases-places : goal.decreases-places
decreases-places l = length l.cells.items

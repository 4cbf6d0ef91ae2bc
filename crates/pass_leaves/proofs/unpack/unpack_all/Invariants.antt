use Rattle.std.proofs.Common.{◌≤◌, ◌+◌, length}
use Rattle.std.specs.Vec.{vec_capacity}
use Rattle.pass_leaves.specs.Hand.{IsUnpacking}
use Rattle.pass_leaves.proofs.unpack.unpack_all.Given as goal

-- those that are unpacked, and those that are left
abbrev pub invariant-places : goal.invariant-places
invariant-places l = IsUnpacking l.store l.fn.pass l.pass l.fn.packed.items l.packed.items l.cells.items
    × (length l.packed.items + length l.cells.items ≤ 16)
    × (vec_capacity l.fn.packed ≤ vec_capacity l.packed)
    × (16 ≤ vec_capacity l.cells) × (vec_capacity l.fn.cells ≤ vec_capacity l.cells)

abbrev pub decreases-places : goal.decreases-places
decreases-places l = length l.packed.items

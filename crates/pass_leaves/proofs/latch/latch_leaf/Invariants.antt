use Rattle.std.proofs.Common.{◌≡◌, ◌+◌, ◌*◌, ◌≤◌, ◌++◌, length}
use Rattle.std.specs.Vec.{vec_capacity}
use Rattle.latch_table.specs.Latched.{number_of}
use Rattle.pass_leaves.specs.Hand.{HasLatched, numbers_from, numbers_held}
use Rattle.pass_leaves.proofs.latch.latch_leaf.Given as goal

-- so many cells of the leaf are taken
abbrev pub invariant-segments : goal.invariant-segments
invariant-segments g l = HasLatched l.store l.latch l.packed.items
    × (number_of l.latch.me.0 ≡ number_of l.fn.latch.me.0)
    × (numbers_held l.packed.items ≡ numbers_held l.fn.packed.items ++ numbers_from (8 * l.leaf) l.segment)
    × (length l.packed.items ≡ length l.fn.packed.items + l.segment)
    × (vec_capacity l.fn.packed ≤ vec_capacity l.packed)

use Rattle.std.proofs.Common.{◌≡◌, ◌*◌, ◌≤◌, length, take}
use Rattle.std.specs.Vec.{vec_capacity}
use Rattle.latch_table.specs.Latched.{number_of}
use Rattle.pass_leaves.specs.Hand.{HasLatched, cells_of_leaves, numbers_held}
use Rattle.pass_leaves.proofs.latch.latch_leaves.Given as goal

-- the cells of so many leaves are taken
abbrev pub invariant-leaves : goal.invariant-leaves
invariant-leaves g l = HasLatched l.store l.latch l.packed.items
    × (number_of l.latch.me.0 ≡ number_of l.fn.latch.me.0)
    × (numbers_held l.packed.items ≡ cells_of_leaves (take l.place l.leaves))
    × (length l.packed.items ≤ 8 * l.place)
    × (vec_capacity l.fn.packed ≤ vec_capacity l.packed)

use Rattle.std.proofs.Common.{◌≡◌, replicate}
use Rattle.leaf_index.specs.Slots.{empty_slot}
use Rattle.leaf_index.proofs.index.new_slots.Given as goal

abbrev pub invariant-fill : goal.invariant-fill
invariant-fill l = l.slots.items ≡ replicate l._leaf empty_slot

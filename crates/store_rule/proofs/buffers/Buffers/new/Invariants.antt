use Rattle.std.proofs.Common.{◌≡◌, ◌≤◌, length}
use Rattle.std.specs.Vec.{vec_capacity}
use Rattle.store_rule.specs.Buffers.{AreVacant}
use Rattle.store_rule.proofs.buffers.Buffers.new.Given as goal

abbrev pub invariant-rooms : goal.invariant-rooms
invariant-rooms l = AreVacant l.free.items × (length l.free.items ≡ l._room) × (16 ≤ vec_capacity l.free)

use Rattle.std.proofs.Common.{◌≡◌, ◌+◌, ◌≤◌, ◌++◌, length}
use Rattle.std.specs.Vec.{vec_capacity}
use Rattle.shared_store.specs.Ends.{HaveNoCells, seats_of}
use Rattle.shared_store.proofs.ends.take_back.Given as goal

-- those of the passes that are left come next
abbrev pub invariant-passes : goal.invariant-passes
invariant-passes l = record {
  taken : l.seats.items ++ seats_of l.list.items ≡ seats_of l.fn.list.items;
  room : length l.seats.items + length l.list.items ≤ vec_capacity l.seats;
  cells : HaveNoCells l.list.items;
}

abbrev pub decreases-passes : goal.decreases-passes
decreases-passes l = length l.list.items

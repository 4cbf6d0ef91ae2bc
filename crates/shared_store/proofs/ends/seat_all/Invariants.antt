use Rattle.std.proofs.Common.{◌≡◌, ◌+◌, ◌≤◌, ◌++◌, length}
use Rattle.std.specs.Vec.{vec_capacity}
use Rattle.shared_store.specs.Ends.{HaveBegunNothing, HaveNoCells, seats_of}
use Rattle.shared_store.proofs.ends.seat_all.Given as goal

-- the seats that are left come next
abbrev pub invariant-seats : goal.invariant-seats
invariant-seats l = record {
  dealt : seats_of l.list.items ++ l.seats.items ≡ l.fn.seats.items;
  room : length l.list.items + length l.seats.items ≤ vec_capacity l.list;
  fresh : HaveBegunNothing l.list.items;
  cells : HaveNoCells l.list.items;
}

abbrev pub decreases-seats : goal.decreases-seats
decreases-seats l = length l.seats.items

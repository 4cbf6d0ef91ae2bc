use Rattle.std.proofs.Common.{◌≡◌, ◌+◌, ◌≤◌, length}
use Rattle.std.specs.Vec.{vec_capacity}
use Rattle.reader_parts.proofs.JoinLemmas.{IsJoining}
use Rattle.reader_parts.proofs.join.join_all.Given as goal

abbrev pub invariant-parts : goal.invariant-parts
invariant-parts l = record {
  joining : IsJoining l.store l.fn.pass l.pass l.fn.parts.items l.parts.items l.idle.items l.lists.items l.ran_out;
  room_idle : length l.idle.items + length l.parts.items ≤ vec_capacity l.idle;
  capacity : vec_capacity l.idle ≡ vec_capacity l.fn.idle;
  room_lists : length l.lists.items + length l.parts.items ≤ vec_capacity l.lists;
}

abbrev pub decreases-parts : goal.decreases-parts
decreases-parts l = length l.parts.items

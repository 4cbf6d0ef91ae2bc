use Rattle.std.proofs.Common.{◌≡◌, ◌+◌, ◌≤◌, length}
use Rattle.std.specs.Vec.{vec_capacity}
use Rattle.reader_parts.proofs.SplitLemmas.{IsSplitting}
use Rattle.reader_parts.proofs.split.split_all.Given as goal

abbrev pub invariant-parts : goal.invariant-parts
invariant-parts l = record {
  splitting : IsSplitting l.store l.fn.pass l.pass l.fn.idle.items l.idle.items l.from l.ends.items l.parts.items;
  room : length l.parts.items + length l.idle.items ≤ vec_capacity l.parts;
  capacity : vec_capacity l.idle ≡ vec_capacity l.fn.idle;
}

abbrev pub decreases-parts : goal.decreases-parts
decreases-parts l = length l.idle.items

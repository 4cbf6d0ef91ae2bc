use Rattle.std.proofs.Common.{◌≡◌, ◌*◌, ◌≤◌, length, take}
use Rattle.leaf_array.specs.Segments.{rows_of}
use Rattle.leaf_array.proofs.counting.rows_in.Given as goal

-- the rows of the segments so far are counted, and each has few
abbrev pub invariant-segments : goal.invariant-segments
invariant-segments l = record {
  rows : l.rows ≡ length (rows_of (take l.segment-index l.segments));
  small : l.rows ≤ 32 * l.segment-index;
}

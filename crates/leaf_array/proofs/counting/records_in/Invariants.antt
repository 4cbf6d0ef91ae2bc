use Rattle.std.proofs.Common.{◌≡◌, take}
use Rattle.leaf_array.specs.Segments.{records_of}
use Rattle.leaf_array.proofs.counting.records_in.Given as goal

-- the records of the segments so far are counted
abbrev pub invariant-segments : goal.invariant-segments
invariant-segments l = l.records ≡ records_of (take l.segment-index l.segments)

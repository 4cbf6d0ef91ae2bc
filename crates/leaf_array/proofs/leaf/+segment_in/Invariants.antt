use Rattle.std.proofs.Common.{length}
use Rattle.leaf_array.proofs.leaf.+segment_in.Given as goal

abbrev pub decreases-segment_in : goal.decreases-segment_in
decreases-segment_in l = length l.segments.now

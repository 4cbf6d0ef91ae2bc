use Rattle.std.proofs.Common.{length}
use Rattle.leaf_array.proofs.pairs.+place_all.Given as goal

abbrev pub decreases-place_all : goal.decreases-place_all
decreases-place_all l = length l.segments.now

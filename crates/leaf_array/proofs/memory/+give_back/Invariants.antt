use Rattle.std.proofs.Common.{length}
use Rattle.leaf_array.proofs.memory.+give_back.Given as goal

abbrev pub decreases-give_back : goal.decreases-give_back
decreases-give_back l = length l.segments.now

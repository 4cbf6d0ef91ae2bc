use Rattle.std.proofs.Common.{length}
use Rattle.leaf_array.proofs.counting.+reserve.Given as goal

abbrev pub decreases-reserve : goal.decreases-reserve
decreases-reserve l = length l.segments.now

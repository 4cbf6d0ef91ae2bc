use Rattle.std.proofs.Common.{length}
use Rattle.leaf_array.proofs.neighbours.+divide.Given as goal

abbrev pub decreases-divide : goal.decreases-divide
decreases-divide l = length l.segments.now

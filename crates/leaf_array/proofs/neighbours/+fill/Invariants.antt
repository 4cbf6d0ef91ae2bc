use Rattle.std.proofs.Common.{length}
use Rattle.leaf_array.proofs.neighbours.+fill.Given as goal

abbrev pub decreases-fill : goal.decreases-fill
decreases-fill l = length l.rest.now

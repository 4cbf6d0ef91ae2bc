use Rattle.std.proofs.Common.{length}
use Rattle.leaf_array.proofs.neighbours.+spill.Given as goal

abbrev pub decreases-spill : goal.decreases-spill
decreases-spill l = length l.rest.now

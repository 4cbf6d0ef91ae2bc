-- the places so far are measured
use Rattle.std.proofs.Common.{◌+◌, ◌-◌, length}
use Rattle.kernel_cdlp.proofs.PartLemmas.{IsMeasured}
use Rattle.kernel_cdlp.proofs.part.part_from.Given as goal

abbrev pub invariant-places : goal.invariant-places
invariant-places l = IsMeasured l.image l.first l.count l.arcs l.room

abbrev pub decreases-places : goal.decreases-places
decreases-places l = length l.image.vertices - (l.first + l.count)

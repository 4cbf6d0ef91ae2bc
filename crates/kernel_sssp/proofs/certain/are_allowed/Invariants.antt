-- the arcs so far are allowed
use Rattle.std.proofs.Common.{map}
use Rattle.kernel_sssp.specs.Certain.{AreAllowed}
use Rattle.kernel_sssp.specs.Distances.{wide_of}
use Rattle.kernel_sssp.proofs.certain.are_allowed.Given as goal

abbrev pub invariant-arcs : goal.invariant-arcs
invariant-arcs l = AreAllowed (map wide_of l.distances) l.arcs l.i l.distance

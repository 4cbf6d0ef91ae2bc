-- the distances so far are widened
use Rattle.std.proofs.Common.{◌≡◌, map, take}
use Rattle.kernel_sssp.specs.Distances.{wide_of}
use Rattle.kernel_sssp.proofs.distances.widened.Given as goal

abbrev pub invariant-distances : goal.invariant-distances
invariant-distances l = l.wider.items ≡ map wide_of (take l.i l.distances)

-- the places before the one at hand are swept, and the others are as they were
use Rattle.kernel_bfs.proofs.PlaceSetLemmas.{IsSweptTo}
use Rattle.kernel_bfs.proofs.arcs_into.sweep_alone.Given as goal

abbrev pub invariant-places : goal.invariant-places
invariant-places l = IsSweptTo l.image l.frontier l.level l.fn.distances.items l.distances.items l.place

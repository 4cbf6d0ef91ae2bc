-- none of the arcs before the one at hand has a place of the set
use Rattle.std.proofs.Common.{◌≡◌, false, take}
use Rattle.kernel_bfs.specs.PlaceSets.{meets}
use Rattle.kernel_bfs.proofs.arcs_into.meets.Given as goal

abbrev pub invariant-arcs : goal.invariant-arcs
invariant-arcs l = meets l.set (take l.i l.arcs) ≡ false

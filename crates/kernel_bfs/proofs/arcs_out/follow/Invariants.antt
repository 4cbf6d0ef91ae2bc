use Rattle.kernel_bfs.specs.Levels.{Spreads, AtEnd}
use Rattle.kernel_bfs.proofs.arcs_out.follow.Given as goal

-- the arcs before the one at hand have been followed
abbrev pub invariant-arcs : goal.invariant-arcs
invariant-arcs l = Spreads (AtEnd l.arcs l.i) l.distance l.fn.distances.items l.fn.next.items l.distances.items l.next.items

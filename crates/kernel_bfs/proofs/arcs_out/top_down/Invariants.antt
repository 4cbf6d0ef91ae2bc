use Rattle.std.proofs.Common.{◌+◌}
use Rattle.kernel_bfs.specs.Levels.{Spreads, FromListed}
use Rattle.kernel_bfs.proofs.arcs_out.top_down.Given as goal

-- the arcs out of the places before the one at hand have been followed
abbrev pub invariant-frontier : goal.invariant-frontier
invariant-frontier l = Spreads (FromListed l.image l.frontier.items l.i) (l.level + 1) l.fn.distances.items l.fn.next.items l.distances.items l.next.items

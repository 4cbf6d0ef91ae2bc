use Rattle.std.proofs.Common.{◌+◌, ◌-◌, ◌*◌, length}
use Rattle.graph_image.proofs.parts.+vertices.Given as goal

abbrev pub decreases-lay_vertices : goal.decreases-lay_vertices
decreases-lay_vertices g l = 4 * length l.lists.now

abbrev pub decreases-both_vertices : goal.decreases-both_vertices
decreases-both_vertices g l = 4 * (length l.front.now + length l.back.now) - 1

abbrev pub decreases-both_vertices-left : goal.decreases-both_vertices-left
decreases-both_vertices-left g l = 4 * length l.front.now + 1

abbrev pub decreases-both_vertices-right : goal.decreases-both_vertices-right
decreases-both_vertices-right g l = 4 * length l.back.now + 1

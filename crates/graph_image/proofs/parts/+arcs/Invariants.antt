use Rattle.std.proofs.Common.{◌+◌, ◌-◌, ◌*◌, length}
use Rattle.graph_image.proofs.parts.+arcs.Given as goal

abbrev pub decreases-lay_arcs : goal.decreases-lay_arcs
decreases-lay_arcs g l = 4 * length l.lists.now

abbrev pub decreases-both_arcs : goal.decreases-both_arcs
decreases-both_arcs g l = 4 * (length l.front.now + length l.back.now) - 1

abbrev pub decreases-both_arcs-left : goal.decreases-both_arcs-left
decreases-both_arcs-left g l = 4 * length l.front.now + 1

abbrev pub decreases-both_arcs-right : goal.decreases-both_arcs-right
decreases-both_arcs-right g l = 4 * length l.back.now + 1

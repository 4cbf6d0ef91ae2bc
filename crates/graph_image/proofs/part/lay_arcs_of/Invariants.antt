use Rattle.graph_image.proofs.PartLemmas.{ArePlaced}
use Rattle.graph_image.proofs.part.lay_arcs_of.Given as goal

-- the arcs of the rows before the one at hand are written
abbrev pub invariant-rows : goal.invariant-rows
invariant-rows l = ArePlaced l.fn.vertices l.rows l.i l.at l.arcs

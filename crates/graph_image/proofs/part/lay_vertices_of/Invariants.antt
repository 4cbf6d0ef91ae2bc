use Rattle.graph_image.proofs.PartLemmas.{AreLaidTo}
use Rattle.graph_image.proofs.part.lay_vertices_of.Given as goal

-- what the rows before the one at hand lay is written
abbrev pub invariant-rows : goal.invariant-rows
invariant-rows l = AreLaidTo l.rows l.before l.i l.place l.arcs l.vertices l.starts

use Rattle.graph_image.specs.Building.{AreEdgesOf}
use Rattle.graph_image.proofs.builder.edges_of.Given as goal

-- the edges of the rows before the one at hand
abbrev pub invariant-rows : goal.invariant-rows
invariant-rows l = AreEdgesOf l.sources l.rows l.i l.edges.items

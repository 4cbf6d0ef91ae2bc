use Rattle.std.proofs.Common.{◌≡◌, take}
use Rattle.graph_image.specs.Parts.{vertices_in, arcs_in}
use Rattle.part_scan.specs.Parts.{rows_in}
use Rattle.graph_image.proofs.parts.total_of.Given as goal

-- the lists before the one at hand are counted
abbrev pub invariant-shares : goal.invariant-shares
invariant-shares l = (l.total.vertices ≡ vertices_in (rows_in (take l.i l.lists))) × (l.total.arcs ≡ arcs_in (rows_in (take l.i l.lists)))

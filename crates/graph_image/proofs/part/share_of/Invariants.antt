use Rattle.std.proofs.Common.{◌≡◌, ◌+◌, take}
use Rattle.graph_image.specs.Parts.{vertices_in, arcs_in}
use Rattle.graph_image.proofs.part.share_of.Given as goal

-- the rows before the one at hand are counted
abbrev pub invariant-rows : goal.invariant-rows
invariant-rows l = (l.share.vertices ≡ vertices_in (take l.i l.rows)) × (l.share.arcs ≡ arcs_in (take l.i l.rows)) × (l.share.vertices + l.share.arcs ≡ l.i)

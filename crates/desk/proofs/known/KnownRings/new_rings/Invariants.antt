use Rattle.std.specs.List.{AllByRecursion}
use Rattle.graph_model.specs.Graph.{Graph}
use Rattle.graph_image.specs.Images.{IsImageOf}
use Rattle.desk.specs.declared.ring.Ring.{Ring}
use Rattle.desk.specs.Rings.{IsRing}
use Rattle.desk.proofs.known.KnownRings.new_rings.Given as given

-- all that were found so far are rings
abbrev pub invariant-places : given.invariant-places
invariant-places g l =
    (graph : Graph) → IsImageOf l.image graph → AllByRecursion (λ (ring : Ring). IsRing graph ring.accounts.items) l.found.items

use Rattle.std.proofs.Common.{◌≡◌, ◌<◌, length}
use Rattle.graph_model.specs.Graph.{Graph}
use Rattle.graph_image.specs.Images.{IsImageOf}
use Rattle.desk.proofs.RingLemmas.{GoesBack}
use Rattle.desk.proofs.rings.way_back.Given as goal

abbrev pub invariant-payers : goal.invariant-payers
invariant-payers l =
    (l.place < length l.image.vertices) × (l.ids ≡ l.image.vertices) × (0 < length l.ring.items)
    × ((g : Graph) → IsImageOf l.image g → GoesBack g l.image.vertices l.ring.items l.root l.place)

-- the labels are those after the rounds so far
use Rattle.std.proofs.Common.{length}
use Rattle.graph_model.specs.Graph.{Graph}
use Rattle.graph_image.specs.Images.{IsImageOf}
use Rattle.kernel_cdlp.specs.Rounds.{AreBelow, AreLabels, IsKept, IsRoused}
use Rattle.kernel_cdlp.specs.Parts.{AreParts}
use Rattle.kernel_cdlp.proofs.rounds.labels_after.Given as goal

abbrev pub invariant-rounds : goal.invariant-rounds
invariant-rounds g l = AreParts l.image (length l.image.vertices) l.parts.items × AreBelow (length l.image.vertices) l.labels.items
    × ((g : Graph) → IsImageOf l.image g → AreLabels g l.image.vertices l._round l.labels.items)
    × IsKept l.image l.labels.items l.changed.items × IsRoused l.image l.changed.items l.awake.items

-- none of the labels so far has changed
use Rattle.std.proofs.Common.{◌≡◌, ℕ, ◌<◌, false, slice_get, Some}
use Rattle.graph_image.specs.declared.edge.Arc.{Arc}
use Rattle.kernel_cdlp.proofs.part.have_not_changed.Given as goal

abbrev pub invariant-arcs : goal.invariant-arcs
invariant-arcs l = (k : ℕ) (a : Arc) → k < l.i → slice_get l.arcs k ≡ Some a → slice_get l.changed a.other ≡ Some false

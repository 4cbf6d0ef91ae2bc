use Rattle.kernel_wcc.specs.Labels.{AreMerged}
use Rattle.kernel_wcc.proofs.labels.components.Given as goal

-- the places so far are joined with the large one, or with the ends of their arcs
abbrev pub invariant-places : goal.invariant-places
invariant-places g l = AreMerged l.image l.large l.place l.labels.items

use Rattle.kernel_wcc.specs.Labels.{AreJoined}
use Rattle.kernel_wcc.proofs.labels.join_ends.Given as goal

-- the place is joined with the ends of the arcs so far
abbrev pub invariant-arcs : goal.invariant-arcs
invariant-arcs l = AreJoined l.fn.labels.items l.fn.place l.arcs l.i l.labels.items

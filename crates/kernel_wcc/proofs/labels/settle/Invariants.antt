use Rattle.kernel_wcc.proofs.LabelLemmas.{IsSettling}
use Rattle.kernel_wcc.proofs.labels.settle.Given as goal

-- the labels of the places so far are settled
abbrev pub invariant-places : goal.invariant-places
invariant-places l = IsSettling l.fn.labels.items l.place l.labels.items

-- the places so far have their labels
use Rattle.kernel_cdlp.proofs.PartLemmas.{IsRelabelling}
use Rattle.kernel_cdlp.proofs.part.Part.relabel.Given as goal

abbrev pub invariant-places : goal.invariant-places
invariant-places l = IsRelabelling l.image l.labels l.fn.self l.self l.k

-- the places so far are marked
use Rattle.kernel_cdlp.proofs.KeptLemmas.{IsMarking}
use Rattle.kernel_cdlp.proofs.rounds.mark.Given as goal

abbrev pub invariant-places : goal.invariant-places
invariant-places l = IsMarking l.before l.after l.place l.changed.items

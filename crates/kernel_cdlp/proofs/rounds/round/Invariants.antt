-- the labels so far are those of the parts so far
use Rattle.kernel_cdlp.proofs.PartLemmas.{AreJoined}
use Rattle.kernel_cdlp.proofs.rounds.round.Given as goal

abbrev pub invariant-parts : goal.invariant-parts
invariant-parts g l = AreJoined l.image l.before l.parts.items l.i l.labels.items

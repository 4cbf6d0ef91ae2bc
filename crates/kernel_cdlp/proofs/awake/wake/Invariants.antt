-- who meets a label of the places so far that has changed is awake
use Rattle.kernel_cdlp.proofs.WakeLemmas.{IsWaking}
use Rattle.kernel_cdlp.proofs.awake.wake.Given as goal

abbrev pub invariant-places : goal.invariant-places
invariant-places l = IsWaking l.image l.changed l.place l.awake.items

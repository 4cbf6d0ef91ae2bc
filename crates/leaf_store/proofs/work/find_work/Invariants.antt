use Rattle.leaf_store.specs.Queued.{IsTended}
use Rattle.leaf_store.proofs.PassLemmas.{looks_left}
use Rattle.leaf_store.proofs.work.find_work.Given as goal

-- with those that were passed nothing is to be done
abbrev pub invariant-waiting : goal.invariant-waiting
invariant-waiting l = IsTended l.index l.leaves.items l.queue

abbrev pub decreases-waiting : goal.decreases-waiting
decreases-waiting l = looks_left l.queue

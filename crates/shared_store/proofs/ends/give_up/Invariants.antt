use Rattle.std.proofs.Common.{length}
use Rattle.shared_store.specs.Ends.{HaveNoCells}
use Rattle.shared_store.proofs.ends.give_up.Given as goal

abbrev pub invariant-passes : goal.invariant-passes
invariant-passes l = HaveNoCells l.list.items

abbrev pub decreases-passes : goal.decreases-passes
decreases-passes l = length l.list.items

use Rattle.std.proofs.Common.{length}
use Rattle.leaf_index.specs.Hinted.{IsRun}
use Rattle.leaf_index.proofs.hints.Hints.of.Given as goal

abbrev pub invariant-halves : goal.invariant-halves
invariant-halves l = IsRun (length l.hints) l.run

abbrev pub decreases-halves : goal.decreases-halves
decreases-halves l = l.run.count

use Rattle.std.proofs.Common.{length}
use Rattle.leaf_index.specs.Hinted.{IsRun}
use Rattle.leaf_index.proofs.hints.Hints.of_four.Given as goal

abbrev pub invariant-halves : goal.invariant-halves
invariant-halves l = record {
  first : IsRun (length l.hints) l.first;
  second : IsRun (length l.hints) l.second;
  third : IsRun (length l.hints) l.third;
  fourth : IsRun (length l.hints) l.fourth;
}

abbrev pub decreases-halves : goal.decreases-halves
decreases-halves l = l.longest

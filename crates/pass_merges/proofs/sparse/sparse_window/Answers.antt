use Rattle.std.proofs.Common.{arith}
use Rattle.pass_merges.proofs.sparse.sparse_window.Goals as goal

pub returns-in-Some-clause-some : goal.returns-in-Some-clause-some
returns-in-Some-clause-some c = record {
  sparse = record {
    segment = c.segments.segment;
    within = c.segments-test.true;
    few = omega (arith, c.if-from.true, c.from.ensures);
    smallest = c.in-Some.ensures.smallest;
    round = c.in-Some.ensures.round;
  };
  before = c.segments.invariant;
}

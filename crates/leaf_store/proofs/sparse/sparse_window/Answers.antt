use Rattle.std.proofs.Common.{arith}
use Rattle.leaf_store.proofs.SparseLemmas.{leftmost}
use Rattle.leaf_store.proofs.sparse.sparse_window.Goals as goal

pub returns-in-Some-clause-some : goal.returns-in-Some-clause-some
returns-in-Some-clause-some c =
    leftmost c.counts_of-counts.result c.args.leaf.now.segments c.segments.segment c.in-Some.window c.counts_of-counts.ensures.counts c.segments-test.true (omega (arith, c.if-from.true, c.from.ensures)) c.in-Some.ensures.smallest c.in-Some.ensures.round c.segments.invariant

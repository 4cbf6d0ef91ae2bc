use Rattle.std.proofs.Common.{sym, subst}
use Rattle.leaf_store.specs.Queued.{IsTended}
use Rattle.leaf_store.proofs.TendLemmas.{merge_can, tended_merge, tended_same}
use Rattle.leaf_store.proofs.merge.merge_queued.Goals as goal

pub returns-in_err-merge_pair-clause-tended : goal.returns-in_err-merge_pair-clause-tended
returns-in_err-merge_pair-clause-tended c =
    let e = c.in_err-merge_pair.ensures in
    tended_same c.args.index.now c.merge_pair.new.index c.args.leaves.now.items c.merge_pair.new.leaves.items c.args.queue.now c.requires.tended e.kept e.compacts.moves.limit e.err.parts

pub enqueue-requires-clause-leaf : goal.enqueue-requires-clause-leaf
enqueue-requires-clause-leaf c =
    let e = c.in_ok-merge_pair.ensures in
    (merge_can c.args.index.now c.merge_pair.new.index c.args.leaves.now.items c.merge_pair.new.leaves.items c.args.queue.now c.requires.tended e.kept e.compacts.moves.limit c.args.pair.left c.args.stamp e.ok).0

pub enqueue-requires-clause-within : goal.enqueue-requires-clause-within
enqueue-requires-clause-within c =
    let e = c.in_ok-merge_pair.ensures in
    (merge_can c.args.index.now c.merge_pair.new.index c.args.leaves.now.items c.merge_pair.new.leaves.items c.args.queue.now c.requires.tended e.kept e.compacts.moves.limit c.args.pair.left c.args.stamp e.ok).1

pub returns-clause-tended : goal.returns-clause-tended
returns-clause-tended c =
    let e = c.in_ok-merge_pair.ensures in
    subst (IsTended c.merge_pair.new.index c.merge_pair.new.leaves.items) (sym c.enqueue.ensures)
    (tended_merge c.args.index.now c.merge_pair.new.index c.args.leaves.now.items c.merge_pair.new.leaves.items c.args.queue.now c.requires.tended e.kept e.compacts.moves.limit c.args.pair.left c.args.stamp e.ok)

pub returns-clause-ok : goal.returns-clause-ok
returns-clause-ok c = c.in_ok-merge_pair.ensures.ok.two

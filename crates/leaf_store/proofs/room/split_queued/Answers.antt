use Rattle.std.proofs.Common.{length, sym, ◌∙◌, ap, subst, arith}
use Rattle.std.proofs.Math.ListN.{length-set}
use Rattle.leaf_store.specs.Queued.{IsTended, with_leaf}
use Rattle.leaf_store.specs.Table.{segments_at}
use Rattle.leaf_store.proofs.TendLemmas.{left_can, right_can, tended_divide, tended_same}
use Rattle.leaf_store.proofs.room.split_queued.Goals as goal

pub returns-in_err-right-clause-tended : goal.returns-in_err-right-clause-tended
returns-in_err-right-clause-tended c =
    let e = c.in_err-right.ensures in
    tended_same c.args.index.now c.split_at.new.index c.args.leaves.now.items c.split_at.new.leaves.items c.args.queue.now c.requires.tended e.moved.kept e.moved.moves.limit e.err.parts

pub enqueue-requires-clause-leaf : goal.enqueue-requires-clause-leaf
enqueue-requires-clause-leaf c =
    let e = c.in_ok-right.ensures in
    (left_can c.args.index.now c.split_at.new.index c.args.leaves.now.items c.split_at.new.leaves.items c.args.queue.now c.requires.tended e.moved.kept e.moved.moves.limit c.args.place.leaf c.in_ok-right.right e.ok.divides).0

pub enqueue-requires-clause-within : goal.enqueue-requires-clause-within
enqueue-requires-clause-within c =
    let e = c.in_ok-right.ensures in
    (left_can c.args.index.now c.split_at.new.index c.args.leaves.now.items c.split_at.new.leaves.items c.args.queue.now c.requires.tended e.moved.kept e.moved.moves.limit c.args.place.leaf c.in_ok-right.right e.ok.divides).1

pub enqueue-requires-2-clause-leaf : goal.enqueue-requires-2-clause-leaf
enqueue-requires-2-clause-leaf c =
    let e = c.in_ok-right.ensures in
    (right_can c.args.index.now c.split_at.new.index c.args.leaves.now.items c.split_at.new.leaves.items c.args.queue.now c.requires.tended e.moved.kept e.moved.moves.limit c.args.place.leaf c.in_ok-right.right e.ok.divides).0

pub enqueue-requires-2-clause-within : goal.enqueue-requires-2-clause-within
enqueue-requires-2-clause-within c =
    let e = c.in_ok-right.ensures in
    let within = (right_can c.args.index.now c.split_at.new.index c.args.leaves.now.items c.split_at.new.leaves.items c.args.queue.now c.requires.tended e.moved.kept e.moved.moves.limit c.args.place.leaf c.in_ok-right.right e.ok.divides).1 in
    let many = ap length c.enqueue.ensures ∙ length-set c.args.queue.now c.args.place.leaf _ in
    omega (arith, within, many)

pub returns-clause-tended : goal.returns-clause-tended
returns-clause-tended c =
    let e = c.in_ok-right.ensures in
    let table = c.split_at.new.leaves.items in
    let now = c.enqueue-2.ensures ∙ ap (λ places. with_leaf places c.in_ok-right.right (segments_at table c.in_ok-right.right)) c.enqueue.ensures in
    subst (IsTended c.split_at.new.index table) (sym now)
    (tended_divide c.args.index.now c.split_at.new.index c.args.leaves.now.items table c.args.queue.now c.requires.tended e.moved.kept e.moved.moves.limit c.args.place.leaf c.in_ok-right.right e.ok.divides)

pub returns-clause-room : goal.returns-clause-room
returns-clause-room c = c.in_ok-right.ensures.ok.room

pub returns-clause-halves : goal.returns-clause-halves
returns-clause-halves c = c.in_ok-right.ensures.ok.halves

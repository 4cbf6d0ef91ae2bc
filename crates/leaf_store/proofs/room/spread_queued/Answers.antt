use Rattle.std.proofs.Common.{sym, subst}
use Rattle.leaf_store.specs.Queued.{IsTended}
use Rattle.leaf_store.proofs.TendLemmas.{spread_can, tended_same, tended_spread}
use Rattle.leaf_store.proofs.room.spread_queued.Goals as goal

pub returns-in_err-spread_window-clause-tended : goal.returns-in_err-spread_window-clause-tended
returns-in_err-spread_window-clause-tended c =
    let e = c.in_err-spread_window.ensures in
    tended_same c.args.index.now c.spread_window.new.index c.args.leaves.now.items c.spread_window.new.leaves.items c.args.queue.now c.requires.tended e.moved.kept e.moved.moves.limit e.err.parts

pub enqueue-requires-clause-leaf : goal.enqueue-requires-clause-leaf
enqueue-requires-clause-leaf c =
    let e = c.in_ok-spread_window.ensures in
    (spread_can c.args.index.now c.spread_window.new.index c.args.leaves.now.items c.spread_window.new.leaves.items c.args.queue.now c.requires.tended e.moved.kept e.moved.moves.limit c.args.window c.args.leaf _ e.ok.spreads).0

pub enqueue-requires-clause-within : goal.enqueue-requires-clause-within
enqueue-requires-clause-within c =
    let e = c.in_ok-spread_window.ensures in
    (spread_can c.args.index.now c.spread_window.new.index c.args.leaves.now.items c.spread_window.new.leaves.items c.args.queue.now c.requires.tended e.moved.kept e.moved.moves.limit c.args.window c.args.leaf _ e.ok.spreads).1

pub returns-clause-tended : goal.returns-clause-tended
returns-clause-tended c =
    let e = c.in_ok-spread_window.ensures in
    subst (IsTended c.spread_window.new.index c.spread_window.new.leaves.items) (sym c.enqueue.ensures)
    (tended_spread c.args.index.now c.spread_window.new.index c.args.leaves.now.items c.spread_window.new.leaves.items c.args.queue.now c.requires.tended e.moved.kept e.moved.moves.limit c.args.window c.args.leaf _ e.ok.spreads)

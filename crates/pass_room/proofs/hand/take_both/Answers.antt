use Rattle.pass_room.proofs.HandLemmas.{no_cells, takes, takes_none}
use Rattle.pass_writes.proofs.HandLemmas.{keeps_state}
use Rattle.pass_room.proofs.hand.take_both.Goals as goal

pub take_leaves-requires-clause-none : goal.take_leaves-requires-clause-none
take_leaves-requires-clause-none g c =
    let none = c.requires.none in
    (no_cells c.args.store.now c.args.pass.now none.of none.none, none.cells)

pub returns-in-Ok-clause-hand : goal.returns-in-Ok-clause-hand
returns-in-Ok-clause-hand g c =
    let none = c.requires.none in
    let holds = c.in-Ok.ensures.holds in (
      takes c.args.store.now c.args.pass.now c.take_leaves.new.pass c.take_leaves.ensures.kept c.args.leaves
          c.take_leaves.new.self.cells.items c.in-Ok.index none.of none.none holds.0,
      holds.1,
    )

pub returns-in-Err-clause-none : goal.returns-in-Err-clause-none
returns-in-Err-clause-none g c =
    let none = c.in-Err.ensures.none in
    takes_none c.args.store.now c.args.pass.now c.take_leaves.new.pass c.take_leaves.ensures.kept
    c.args.own.now.cells.items c.take_leaves.new.self.cells.items c.requires.none none.0 none.1

pub returns-in-Ok-clause-kept : goal.returns-in-Ok-clause-kept
returns-in-Ok-clause-kept g c = keeps_state c.args.store.now c.args.pass.now c.take_leaves.new.pass c.take_leaves.ensures.kept

pub returns-in-Err-clause-kept : goal.returns-in-Err-clause-kept
returns-in-Err-clause-kept g c = keeps_state c.args.store.now c.args.pass.now c.take_leaves.new.pass c.take_leaves.ensures.kept

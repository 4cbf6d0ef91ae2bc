use Rattle.std.proofs.Common.{[], ◌∷◌}
use Rattle.pass_room.proofs.HandLemmas.{no_cells, takes}
use Rattle.pass_writes.proofs.HandLemmas.{keeps_state}
use Rattle.pass_room.proofs.hand.take_leaf.Goals as goal

pub take-requires : goal.take-requires
take-requires g c =
    let none = c.requires.none in
    record { none = (no_cells c.args.store.now c.args.pass.now none.of none.none, none.cells) }

pub returns-clause-hand : goal.returns-clause-hand
returns-clause-hand g c =
    let none = c.requires.none in
    takes c.args.store.now c.args.pass.now c.take.new.pass c.take.ensures.kept (c.take.result.leaf ∷ [])
    c.take.new.self.cells.items c.take.result.index none.of none.none c.take.ensures.holds

pub returns-clause-kept : goal.returns-clause-kept
returns-clause-kept g c = keeps_state c.args.store.now c.args.pass.now c.take.new.pass c.take.ensures.kept

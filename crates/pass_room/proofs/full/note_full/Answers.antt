use Rattle.pass_room.proofs.FullLemmas.{may_note, noted_in_hand, noted_kept}
use Rattle.pass_room.proofs.full.note_full.Goals as goal

pub change-requires-clause-may : goal.change-requires-clause-may
change-requires-clause-may c =
    may_note c.args.store.now c.args.pass.now c.args.leaf c.args.cells.now c.args.index.now c.requires.hand c.args.key
    c.args.need c.requires.fit c.requires.crowded c.requires.free c.requires.below c.requires.few

pub returns-clause-hand : goal.returns-clause-hand
returns-clause-hand c =
    noted_in_hand c.args.store.now c.args.pass.now c.args.leaf c.args.cells.now c.args.index.now c.requires.hand
    c.change.new.pass c.change.ensures.changed

pub returns-clause-kept : goal.returns-clause-kept
returns-clause-kept c =
    noted_kept c.args.store.now c.args.pass.now c.args.leaf c.args.cells.now c.args.index.now c.requires.hand
    c.change.new.pass c.change.ensures.changed

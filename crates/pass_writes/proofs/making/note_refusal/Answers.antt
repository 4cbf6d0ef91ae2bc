use Rattle.pass_writes.proofs.StateLemmas.{note_steps}
use Rattle.pass_writes.proofs.making.note_refusal.Goals as goal

pub returns-in-Conflict-clause-still : goal.returns-in-Conflict-clause-still
returns-in-Conflict-clause-still c =
    let noted = note_steps c.args.store.now c.args.pass.now c.note.new.pass c.args.taken.now.list.items c.args.write _
    c.requires.hand c.note.ensures in
    record { hand = noted.hand; pin = noted.pin; same = noted.same }

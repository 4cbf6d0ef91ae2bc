use Rattle.pass_writes.proofs.CheckLemmas.{named_asked}
use Rattle.pass_writes.proofs.reads.value_as.Goals as goal

pub value-value-requires-clause-named : goal.value-value-requires-clause-named
value-value-requires-clause-named g c =
    named_asked c.rows_in_hand_are_known.ensures c.args.store.now c.args.pass.now c.args.pass.now
    c.args.taken.now.list.items c.args.clock g.B.Asker.asking c.requires.asking c.requires.reading.hand c.requires.reading.learnt
    c.args.snapshot.now c.requires.reading.sees c.lend-states.result c.lend-states.result c.lend-states.ensures.lent
    c.args.key c.requires.held

use Rattle.std.proofs.Common.{◌∙◌}
use Rattle.pass_scans.proofs.PackedLemmas.{agree, many, named_asked, shown_asked, start_known}
use Rattle.pass_scans.proofs.run.read_as.Goals as goal

pub run_at-requires-clause-count : goal.run_at-requires-clause-count
run_at-requires-clause-count g c =
    many c.args.store.now c.args.pass.now c.args._cell c.args.resting.now c.args.words.now c.args.from c.args.end c.args.clock
    c.requires.reading.learnt c.requires.may.0 c.requires.may.1

pub run_at-requires-clause-agree : goal.run_at-requires-clause-agree
run_at-requires-clause-agree g c =
    agree c.args.store.now c.args.pass.now c.args._cell c.args.resting.now c.args.words.now c.args.from c.args.end c.args.clock
    c.requires.reading.learnt c.requires.may.0 c.requires.may.1

pub run_at-requires-clause-known : goal.run_at-requires-clause-known
run_at-requires-clause-known g c =
    start_known c.args.store.now c.args.pass.now c.args._cell c.args.resting.now c.args.words.now c.args.from c.args.end c.args.clock
    c.requires.reading.learnt c.requires.may.0 c.requires.may.1 g.B.Asker.asking c.requires.asking c.args.snapshot.now c.requires.reading.sees
    c.lend-states.result c.lend-states.ensures.lent

pub run_at-requires-clause-named : goal.run_at-requires-clause-named
run_at-requires-clause-named g c =
    named_asked c.args.store.now c.args.pass.now c.args._cell c.args.resting.now c.args.words.now c.args.from c.args.end c.args.clock
    c.requires.reading.learnt c.requires.may.0 c.requires.may.1 g.B.Asker.asking c.requires.asking c.args.snapshot.now c.requires.reading.sees
    c.lend-states.result c.lend-states.ensures.lent

pub returns-clause-run : goal.returns-clause-run
returns-clause-run g c =
    c.run_at.ensures.rows
    ∙ shown_asked c.args.store.now c.args.pass.now c.args._cell c.args.resting.now c.args.words.now c.args.from c.args.end c.args.clock
    c.requires.reading.learnt c.requires.may.0 c.requires.may.1 g.B.Asker.asking c.requires.asking c.args.snapshot.now c.requires.reading.sees
    c.lend-states.result c.lend-states.ensures.lent

use Rattle.std.proofs.Common.{◌∙◌, sym, ap}
use Rattle.std.specs.Prelude.{true, false}
use Rattle.graph_model.specs.declared.row.Key.{Key}
use Rattle.graph_model.specs.Rows.{is_below}
use Rattle.std.proofs.Common.{◌≡◌, subst}
use Rattle.pass_cells.specs.Taken.{cell_at}
use Rattle.pass_readers.proofs.HandLemmas.{lent_is_back, stays_in_hand}
use Rattle.pass_readers.proofs.RunLemmas.{cell_is_named, run_ends, shown, start_known}
use Rattle.pass_readers.specs.Readers.{read_by, seen_by}
use Rattle.pass_readers.proofs.runs.read_as.Goals as goal

pub run-lent-requires-clause-known : goal.run-lent-requires-clause-known
run-lent-requires-clause-known g c =
    start_known c.rows_in_hand_are_known.ensures c.args.store.now c.args.reader.now c.args.taken.now.list.items
    c.args.clock g.B.Reading.asking c.requires.asking c.requires.reading.hand c.requires.reading.learnt c.args.snapshot.now
    c.requires.reading.sees c.lend-states.result c.lend-states.ensures.lent

pub run-lent-requires-clause-named : goal.run-lent-requires-clause-named
run-lent-requires-clause-named g c =
    cell_is_named c.rows_in_hand_are_known.ensures c.args.store.now c.args.reader.now c.args.taken.now.list.items
    c.args.clock g.B.Reading.asking c.requires.asking c.requires.reading.hand c.requires.reading.learnt c.args.snapshot.now
    c.requires.reading.sees c.lend-states.result c.lend-states.ensures.lent c.args.from c.requires.held

pub returns-clause-hand : goal.returns-clause-hand
returns-clause-hand g c =
    let back = lent_is_back c.args.reader.now c.lend-states.new.reader c.give_back.new.reader _ _
    c.lend-states.ensures.kept c.give_back.ensures (λ i. (c.requires.asking i).sight) in
    stays_in_hand c.args.store.now c.args.reader.now c.give_back.new.reader back _ c.requires.reading.hand

pub returns-clause-run : goal.returns-clause-run
returns-clause-run g c =
    let cell = cell_at c.args.taken.now.list.items c.args.from in
    let x = read_by c.args.reader.now in
    let ends = run_ends cell.low cell.high c.args.from c.args.until c.run-lent.ensures.holds c.requires.ahead in
    let is = c.run-lent.ensures.end in
    let all = shown c.rows_in_hand_are_known.ensures c.args.store.now c.args.reader.now c.args.taken.now.list.items
    c.args.clock g.B.Reading.asking c.requires.asking c.requires.reading.hand c.requires.reading.learnt c.args.snapshot.now
    c.requires.reading.sees c.lend-states.result c.lend-states.ensures.lent in
    record {
      ahead = ap (is_below c.args.from) is ∙ ends.0;
      inside = ap (is_below c.args.until) is ∙ ends.1;
      run_is = c.copy_rows.ensures ∙ c.run-lent.ensures.rows (seen_by c.args.store.now.accounts.config x) all;
    }

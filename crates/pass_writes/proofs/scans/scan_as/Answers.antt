use Rattle.std.proofs.Common.{◌∙◌, sym, ap}
use Rattle.graph_model.specs.Rows.{rows}
use Rattle.pass_prunes.specs.PassCells.Taken.{cell_at}
use Rattle.pass_prunes.specs.PassSteps.Passes.{state_of}
use Rattle.pass_writes.specs.Found.{view_of}
use Rattle.pass_writes.proofs.CheckLemmas.{named_asked, shown}
use Rattle.pass_writes.proofs.ScanLemmas.{cell_named, run_end_stays, run_is_ahead}
use Rattle.pass_writes.proofs.scans.scan_as.Goals as goal

pub run-run-requires-clause-named : goal.run-run-requires-clause-named
run-run-requires-clause-named g c =
    cell_named c.args.store.now.accounts.config c.args.pass.now.account.me.0 _ c.args.taken.now.list.items
    c.args.cursor.now.next c.requires.reading.hand.holds.taken.known c.requires.reading.hand.holds.rising
    (named_asked c.rows_in_hand_are_known.ensures c.args.store.now c.args.pass.now c.args.pass.now
    c.args.taken.now.list.items c.args.clock g.B.Asker.asking c.requires.asking c.requires.reading.hand c.requires.reading.learnt
    c.args.snapshot.now c.requires.reading.sees c.lend-states.result c.lend-states.result c.lend-states.ensures.lent)
    c.requires.held

pub has_portion-whole-requires-clause-ahead : goal.has_portion-whole-requires-clause-ahead
has_portion-whole-requires-clause-ahead g c =
    let cell = cell_at c.args.taken.now.list.items c.args.cursor.now.next in
    run_is_ahead c.run-run.result.end cell.low cell.high c.args.cursor.now c.run-run.ensures.end
    c.run-run.ensures.holds c.requires.more.ahead

pub returns-clause-portion : goal.returns-clause-portion
returns-clause-portion g c =
    let view = view_of c.args.store.now.accounts.config.kind (state_of c.args.pass.now) in
    let cell = cell_at c.args.taken.now.list.items c.args.cursor.now.next in
    let all = shown c.rows_in_hand_are_known.ensures c.args.store.now c.args.pass.now c.give_back.new.pass
    c.args.taken.now.list.items c.args.clock g.B.Asker.asking c.requires.asking c.requires.reading.hand c.requires.reading.learnt
    c.args.snapshot.now c.requires.reading.sees c.lend-states.result c.run-run.new.states
    c.lend-states.ensures.lent in
    record {
      under_way = λ first. c.has_portion-whole.ensures.under_way view first (c.run-run.ensures.rows view all
          ∙ ap (rows view c.args.cursor.now.next)
          (sym (run_end_stays c.run-run.result.end cell.high c.args.cursor.now c.run-run.ensures.end)));
      portion = c.has_portion-whole.ensures.portion;
      onward = c.has_portion-whole.ensures.onward;
    }

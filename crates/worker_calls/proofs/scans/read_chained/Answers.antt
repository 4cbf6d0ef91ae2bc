use Rattle.graph_model.proofs.KeyLemmas.{below_up}
use Rattle.reader_parts.specs.SharedStore.Passes.{view_in}
use Rattle.std.proofs.Common.{◌∙◌}
use Rattle.worker_calls.proofs.ScanLemmas.{run_there}
use Rattle.worker_calls.proofs.scans.read_chained.Goals as goal

pub read_cell-requires-clause-ahead : goal.read_cell-requires-clause-ahead
read_cell-requires-clause-ahead g c =
    below_up c.args.cursor.now.next c.args.end c.args.cursor.now.until c.requires.ends.ahead c.requires.ends.inside

pub take_run-requires-clause-ends : goal.take_run-requires-clause-ends
take_run-requires-clause-ends g c =
    (run_there c.read_cell.result c.in-Some.read (view_in c.args.store.now c.args.pass.now) c.args.cursor.now.next c.args.cursor.now.until
    c.read_cell.new.run c.read_cell.ensures.run c.in-Some.is).0

pub returns-in-Some-clause-on : goal.returns-in-Some-clause-on
returns-in-Some-clause-on g c = λ yes first under_way.
    let graph = view_in c.args.store.now c.args.pass.now in
    let read = run_there c.read_cell.result c.in-Some.read graph c.args.cursor.now.next c.args.cursor.now.until c.read_cell.new.run
    c.read_cell.ensures.run c.in-Some.is in
    c.take_run.ensures.under_way graph first (c.as_slice.ensures ∙ read.1) under_way

use Rattle.std.proofs.Common.{◌∙◌}
use Rattle.std.specs.Prelude.{false}
use Rattle.reader_parts.specs.SharedStore.Passes.{view_in}
use Rattle.worker_calls.proofs.ScanLemmas.{all_given}
use Rattle.worker_calls.proofs.scans.read_held.Goals as goal

pub returns-clause-on : goal.returns-clause-on
returns-clause-on g c = λ yes first under_way.
    c.take_run.ensures.under_way (view_in c.args.store.now c.args.pass.now) first
    (c.as_slice.ensures ∙ all_given (view_in c.args.store.now c.args.pass.now)
    (record { next = c.args.cursor.now.next; until = c.args.end; done = false }) c.scan_step.new.cursor
    c.scan_step.new.rows c.scan_step.ensures.answer c.if-not-part.false) under_way

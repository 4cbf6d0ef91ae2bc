use Rattle.std.proofs.Common.{refl}
use Rattle.threaded_run.specs.Running.{inputs_on}
use Rattle.threaded_run.proofs.RunLemmas.{left_run}
use Rattle.threaded_run.proofs.run.run_on_threads.Goals as goal

pub returns-in-Ok-clause-run : goal.returns-in-Ok-clause-run
returns-in-Ok-clause-run g c =
    (left_run c.closed_stores_leave_runs.ensures (inputs_on c.args.config c.args.load c.args.scripts) c.args.config c.in_ok-store.store c.in_ok-store.passes.list.items c.run_passes.new.passes.items c.args.scripts c.in-Ok.jobs c.close-closed.result.journal
    c.requires.can refl c.in_ok-store.ensures.config c.in_ok-store.ensures.passes c.in-Ok.ensures.ran c.in-Ok.ensures.others c.close-closed.ensures.journal).0

pub returns-in-Ok-clause-left : goal.returns-in-Ok-clause-left
returns-in-Ok-clause-left g c =
    (left_run c.closed_stores_leave_runs.ensures (inputs_on c.args.config c.args.load c.args.scripts) c.args.config c.in_ok-store.store c.in_ok-store.passes.list.items c.run_passes.new.passes.items c.args.scripts c.in-Ok.jobs c.close-closed.result.journal
    c.requires.can refl c.in_ok-store.ensures.config c.in_ok-store.ensures.passes c.in-Ok.ensures.ran c.in-Ok.ensures.others c.close-closed.ensures.journal).1

use Rattle.std.specs.Prelude.{IfOk}
use Rattle.run_model.specs.Run.{IsRun}
use Rattle.threaded_run.specs.SharedRuns.Closing.{LeavesRun, outputs_with}
use Rattle.source_run.proofs.ThreadLemmas.{read_beside, can_run, of_sources, all_refused, all_counted}
use Rattle.source_run.proofs.threads.run_by_threads.Goals as goal

pub run_on_threads-requires-clause-can : goal.run_on_threads-requires-clause-can
run_on_threads-requires-clause-can g c κs within =
    can_run c.args.kind c.args.leaves c.args.input.ids c.args.input.edges c.args.input.scripts c.with_readers-config.result c.in_ok-load.load c.in_ok-load.ensures
    (read_beside c.args.kind c.args.leaves c.as_slice.result.now c.args.input.scripts c.args.workers c.config_of-config.result c.with_readers-config.result c.config_of-config.ensures.config c.as_slice.ensures c.with_readers-config.ensures.config) c.requires.inputs

pub returns-clause-run : goal.returns-clause-run
returns-clause-run g c =
    of_sources c.args.kind c.args.leaves c.args.input.ids c.args.input.edges c.args.input.scripts c.with_readers-config.result c.in_ok-load.load c.in_ok-load.ensures
    (read_beside c.args.kind c.args.leaves c.as_slice.result.now c.args.input.scripts c.args.workers c.config_of-config.result c.with_readers-config.result c.config_of-config.ensures.config c.as_slice.ensures c.with_readers-config.ensures.config)
    (λ inputs leaves. IfOk c.run_on_threads.result (λ r. IsRun inputs leaves (outputs_with r.closed.journal r.jobs))) c.run_on_threads.ensures.run

pub returns-clause-left : goal.returns-clause-left
returns-clause-left g c =
    of_sources c.args.kind c.args.leaves c.args.input.ids c.args.input.edges c.args.input.scripts c.with_readers-config.result c.in_ok-load.load c.in_ok-load.ensures
    (read_beside c.args.kind c.args.leaves c.as_slice.result.now c.args.input.scripts c.args.workers c.config_of-config.result c.with_readers-config.result c.config_of-config.ensures.config c.as_slice.ensures c.with_readers-config.ensures.config)
    (λ inputs leaves. IfOk c.run_on_threads.result (λ r. LeavesRun inputs leaves (outputs_with r.closed.journal r.jobs))) c.run_on_threads.ensures.left

pub returns-clause-counts : goal.returns-clause-counts
returns-clause-counts g c =
    all_counted c.args.kind c.args.leaves c.args.input.ids c.args.input.edges c.args.input.scripts c.with_readers-config.result c.in_ok-load.load c.in_ok-load.ensures
    (read_beside c.args.kind c.args.leaves c.as_slice.result.now c.args.input.scripts c.args.workers c.config_of-config.result c.with_readers-config.result c.config_of-config.ensures.config c.as_slice.ensures c.with_readers-config.ensures.config) c.run_on_threads.result c.run_on_threads.ensures.totals

pub returns-clause-refused : goal.returns-clause-refused
returns-clause-refused g c =
    all_refused c.args.kind c.args.leaves c.args.input.ids c.args.input.edges c.args.input.scripts c.with_readers-config.result c.in_ok-load.load c.in_ok-load.ensures
    (read_beside c.args.kind c.args.leaves c.as_slice.result.now c.args.input.scripts c.args.workers c.config_of-config.result c.with_readers-config.result c.config_of-config.ensures.config c.as_slice.ensures c.with_readers-config.ensures.config) c.run_on_threads.result c.run_on_threads.ensures.refused

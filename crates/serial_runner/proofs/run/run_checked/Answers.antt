use Rattle.std.proofs.Common.{refl}
use Rattle.job_runner.proofs.RunLemmas.{new_under_way}
use Rattle.serial_runner.proofs.PrepareLemmas.{on_err, stuck_here, stuck_at_first}
use Rattle.serial_runner.proofs.run.run_checked.Goals as goal

pub returns-in_err-checks-clause-err : goal.returns-in_err-checks-clause-err
returns-in_err-checks-clause-err g c =
    let given = c.requires.new in
    let core = g.E.StepEngine.core c.args.engine.now in
    on_err c.from_residual.result (stuck_at_first core core c.args.jobs.now (stuck_here given.0 core c.args.jobs.now c.args.jobs.now (new_under_way given.0 core c.args.jobs.now given.1) refl))

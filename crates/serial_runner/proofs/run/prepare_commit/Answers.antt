use Rattle.std.proofs.Common.{◌∙◌, ◌-◌, refl, sym}
use Rattle.graph_model.specs.OwnerCalls.{pass_at}
use Rattle.serial_runner.proofs.PrepareLemmas.{commit_waits, commit_aborts}
use Rattle.serial_runner.proofs.run.prepare_commit.Goals as goal

pub returns-in-None-clause-ok : goal.returns-in-None-clause-ok
returns-in-None-clause-ok g c =
    let core = g.E.StepEngine.core c.args.engine.now in
    commit_waits core (pass_at core c.args.number) c.args.jobs.now (c.args.number - 1) c.args.check.now _ (sym c.refusal.ensures ∙ c.in-None.is) refl refl

pub returns-in_ok-push-in-Some-clause-ok : goal.returns-in_ok-push-in-Some-clause-ok
returns-in_ok-push-in-Some-clause-ok g c =
    let core = g.E.StepEngine.core c.args.engine.now in
    commit_aborts core (pass_at core c.args.number) c.args.jobs.now c.abort_instead.new.self (c.args.number - 1) c.args.check.now _ c.answered-line.result c.in-Some.stamp
    (sym c.refusal.ensures ∙ c.in-Some.is) c.in_ok-push-in-Some.ensures.ok refl c.answered-line.ensures c.abort_instead.ensures

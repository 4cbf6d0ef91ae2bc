use Rattle.std.proofs.Common.{sym, subst}
use Rattle.std.specs.Prelude.{false}
use Rattle.job_runner.specs.Runs.{Turns}
use Rattle.job_runner.proofs.RunLemmas.{serves}
use Rattle.job_runner.proofs.run.take_turn.Goals as goal

pub returns-then-number-eq0-clause-turns : goal.returns-then-number-eq0-clause-turns
returns-then-number-eq0-clause-turns g c =
    let old = g.E.StepEngine.core c.args.engine.now in
    let new = g.E.StepEngine.core c.service_step.new.self in
    subst (λ n. Turns old c.args.jobs.now n false new c.args.jobs.now) (sym c.if-number-eq0.true) (serves old c.args.jobs.now new (g.met.E.StepEngine.serves_here _ _ _ c.service_step.ensures))

use Rattle.std.proofs.Common.{◌≡◌, ℕ, suc, ◌<◌}
use Rattle.std.specs.Prelude.{None}
use Rattle.graph_model.specs.OwnerCalls.{pass_at}
use Rattle.job_runner.specs.Runs.{AreHeld}
use Rattle.job_runner.proofs.jobs.give_up_each.Given as goal

abbrev pub invariant-jobs : goal.invariant-jobs
invariant-jobs g l = record {
  held : AreHeld (g.E.StepEngine.core l.engine) l.jobs;
  closed : (k : ℕ) → k < l.job-index → (pass_at (g.E.StepEngine.core l.engine) (suc k)).start ≡ None;
  journal : (g.E.StepEngine.core l.engine).journal ≡ (g.E.StepEngine.core l.initial.engine).journal;
}

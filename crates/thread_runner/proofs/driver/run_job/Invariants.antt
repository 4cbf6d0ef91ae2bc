use Rattle.std.proofs.Common.{◌≡◌}
use Rattle.std.specs.Prelude.{true, false, None}
use Rattle.job_runner.specs.Progress.{is_over, IsReadyBy}
use Rattle.thread_runner.specs.ByAccount.{RanBy}
use Rattle.thread_runner.proofs.TurnLemmas.{left_over}
use Rattle.thread_runner.proofs.driver.run_job.Given as goal

abbrev pub invariant-turns : goal.invariant-turns
invariant-turns g l = record {
  ran : RanBy (g.E.Engine.account l.initial.engine) l.initial.job l.job (g.E.Engine.account l.engine);
  pass : (g.E.Engine.account l.engine).job ≡ (g.E.Engine.account l.initial.engine).job;
  closed : is_over l.initial.job ≡ false → is_over l.job ≡ true → (g.E.Engine.account l.engine).start ≡ None;
  ready : is_over l.job ≡ false → IsReadyBy (g.E.Engine.account l.engine) l.job;
}

abbrev pub decreases-turns : goal.decreases-turns
decreases-turns g l = left_over l.job

use Rattle.std.proofs.Common.{◌≡◌, ℕ, ◌+◌, ◌<◌, ◌≤◌, length}
use Rattle.run_model.specs.Inputs.{Inputs}
use Rattle.run_model.specs.Stepped.{rotated}
use Rattle.job_runner.specs.Runs.{AreNew, under_way}
use Rattle.job_runner.proofs.RunLemmas.{IsAt}
use Rattle.job_runner.proofs.RotationLemmas.{measure}
use Rattle.job_runner.proofs.run.take_turns.Given as goal

abbrev pub invariant-schedule : goal.invariant-schedule
invariant-schedule g l = record {
  at : (inputs : Inputs) → AreNew inputs (g.E.StepEngine.core l.fn.engine) l.fn.jobs
      → IsAt inputs l.schedule (g.E.StepEngine.core l.fn.engine) l.job-index (g.E.StepEngine.core l.engine) l.jobs;
  left : l.left ≡ under_way l.jobs;
  count : length l.jobs ≡ l.count;
  listed : l.count ≡ length l.fn.jobs;
}

abbrev pub invariant-rotation : goal.invariant-rotation
invariant-rotation g l = record {
  at : (inputs : Inputs) → AreNew inputs (g.E.StepEngine.core l.fn.engine) l.fn.jobs
      → (m : ℕ) × IsAt inputs l.schedule (g.E.StepEngine.core l.fn.engine) (length l.schedule + m) (g.E.StepEngine.core l.engine) l.jobs × (l.job ≡ rotated (length inputs.scripts) m);
  left : l.left ≡ under_way l.jobs;
  count : length l.jobs ≡ l.count;
  listed : 0 < l.left → l.job ≤ l.count;
}

abbrev pub decreases-rotation : goal.decreases-rotation
decreases-rotation g l = measure l.jobs l.job

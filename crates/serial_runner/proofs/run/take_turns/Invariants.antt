use Rattle.std.proofs.Common.{◌≡◌, ℕ, ◌+◌, ◌<◌, ◌≤◌, length}
use Rattle.run_model.specs.Inputs.{Inputs}
use Rattle.run_model.specs.Stepped.{rotated}
use Rattle.job_runner.specs.Runs.{under_way}
use Rattle.job_runner.proofs.RotationLemmas.{measure}
use Rattle.serial_runner.specs.SerialRuns.{IsUnderCheck}
use Rattle.serial_runner.proofs.run.take_turns.Given as goal

abbrev pub invariant-schedule : goal.invariant-schedule
invariant-schedule g l = record {
  at : (inputs : Inputs) → IsUnderCheck inputs l.schedule (g.E.StepEngine.core l.fn.engine) 0 (g.E.StepEngine.core l.fn.engine) l.fn.jobs l.fn.checks
      → IsUnderCheck inputs l.schedule (g.E.StepEngine.core l.fn.engine) l.job-index (g.E.StepEngine.core l.engine) l.jobs l.checks;
  left : l.left ≡ under_way l.jobs;
  count : length l.jobs ≡ l.count;
  checked : length l.checks ≡ length l.fn.jobs;
  listed : l.count ≡ length l.fn.jobs;
}

abbrev pub invariant-rotation : goal.invariant-rotation
invariant-rotation g l = record {
  at : (inputs : Inputs) → IsUnderCheck inputs l.schedule (g.E.StepEngine.core l.fn.engine) 0 (g.E.StepEngine.core l.fn.engine) l.fn.jobs l.fn.checks
      → (m : ℕ) × IsUnderCheck inputs l.schedule (g.E.StepEngine.core l.fn.engine) (length l.schedule + m) (g.E.StepEngine.core l.engine) l.jobs l.checks × (l.job ≡ rotated (length inputs.scripts) m);
  left : l.left ≡ under_way l.jobs;
  count : length l.jobs ≡ l.count;
  checked : length l.checks ≡ length l.fn.jobs;
  listed : 0 < l.left → l.job ≤ l.count;
}

abbrev pub decreases-rotation : goal.decreases-rotation
decreases-rotation g l = measure l.jobs l.job

use Rattle.std.proofs.Common.{◌≡◌, ℕ, ◌+◌, ◌<◌, ◌≤◌, length}
use Rattle.journal_disk.specs.Disk.{FaultsStand}
use Rattle.run_model.specs.Inputs.{Inputs}
use Rattle.run_model.specs.Stepped.{rotated}
use Rattle.job_runner.specs.Runs.{AreNew, under_way}
use Rattle.job_runner.proofs.RunLemmas.{IsAt}
use Rattle.job_runner.proofs.RotationLemmas.{measure}
use Rattle.run_keeper.specs.Keeping.{IsKept}
use Rattle.run_keeper.proofs.run.take_turns.Given as goal

abbrev pub invariant-schedule : goal.invariant-schedule
invariant-schedule g l = record {
  at : (inputs : Inputs) → AreNew inputs (g.E.StepEngine.core l.fn.engine) l.fn.jobs
      → IsAt inputs l.schedule (g.E.StepEngine.core l.fn.engine) l.job-index (g.E.StepEngine.core l.engine) l.jobs;
  left : l.left ≡ under_way l.jobs;
  count : length l.jobs ≡ l.count;
  listed : l.count ≡ length l.fn.jobs;
  kind : (g.E.StepEngine.core l.engine).kind ≡ (g.E.StepEngine.core l.fn.engine).kind;
  kept : IsKept g.K.Disk.moment g.K.Disk.may_leave g.K.Disk.left_since g.K.Disk.state (g.E.StepEngine.core l.fn.engine).kind (g.E.StepEngine.core l.fn.engine).journal l.fn.keeper.file l.fn.disk
      → IsKept g.K.Disk.moment g.K.Disk.may_leave g.K.Disk.left_since g.K.Disk.state (g.E.StepEngine.core l.fn.engine).kind (g.E.StepEngine.core l.engine).journal l.keeper.file l.disk;
  faults : FaultsStand (g.K.Disk.state l.fn.disk) (g.K.Disk.state l.disk);
}

abbrev pub invariant-rotation : goal.invariant-rotation
invariant-rotation g l = record {
  at : (inputs : Inputs) → AreNew inputs (g.E.StepEngine.core l.fn.engine) l.fn.jobs
      → (m : ℕ) × IsAt inputs l.schedule (g.E.StepEngine.core l.fn.engine) (length l.schedule + m) (g.E.StepEngine.core l.engine) l.jobs × (l.job ≡ rotated (length inputs.scripts) m);
  left : l.left ≡ under_way l.jobs;
  count : length l.jobs ≡ l.count;
  listed : 0 < l.left → l.job ≤ l.count;
  kind : (g.E.StepEngine.core l.engine).kind ≡ (g.E.StepEngine.core l.fn.engine).kind;
  kept : IsKept g.K.Disk.moment g.K.Disk.may_leave g.K.Disk.left_since g.K.Disk.state (g.E.StepEngine.core l.fn.engine).kind (g.E.StepEngine.core l.fn.engine).journal l.fn.keeper.file l.fn.disk
      → IsKept g.K.Disk.moment g.K.Disk.may_leave g.K.Disk.left_since g.K.Disk.state (g.E.StepEngine.core l.fn.engine).kind (g.E.StepEngine.core l.engine).journal l.keeper.file l.disk;
  faults : FaultsStand (g.K.Disk.state l.fn.disk) (g.K.Disk.state l.disk);
}

abbrev pub decreases-rotation : goal.decreases-rotation
decreases-rotation g l = measure l.jobs l.job

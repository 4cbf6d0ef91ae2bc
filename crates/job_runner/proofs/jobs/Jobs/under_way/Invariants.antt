use Rattle.std.proofs.Common.{◌≡◌, ◌≤◌, take}
use Rattle.std.specs.Prelude.{count_by, not}
use Rattle.job_runner.specs.Progress.{is_over}
use Rattle.job_runner.proofs.jobs.Jobs.under_way.Given as goal

abbrev pub invariant-jobs : goal.invariant-jobs
invariant-jobs l = record { counted : l.left ≡ count_by (λ job. not (is_over job)) (take l.job-index l.job-items); small : l.left ≤ l.job-index }

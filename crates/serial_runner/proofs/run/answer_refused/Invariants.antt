-- the scripts so far have their answers
use Rattle.std.proofs.Common.{◌≡◌, take}
use Rattle.serial_runner.specs.SerialRuns.{jobs_anew}
use Rattle.serial_runner.proofs.run.answer_refused.Given as goal

abbrev pub invariant-checks : goal.invariant-checks
invariant-checks l = l.jobs ≡ jobs_anew (take l.job l.checks) l.fn.jobs

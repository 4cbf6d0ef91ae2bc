-- the jobs so far, and then those of the scripts that are left
use Rattle.std.proofs.Common.{◌≡◌, ◌+◌, ◌++◌, length}
use Rattle.std.specs.Vec.Iter.{into_iter_items, into_iter_len}
use Rattle.serial_runner.specs.JobRunner.Runs.{new_jobs}
use Rattle.source_run.proofs.run.jobs_of.Given as goal

abbrev pub invariant-scripts : goal.invariant-scripts
invariant-scripts l = (l.jobs.items ++ new_jobs l.number (into_iter_items l.script-iterator) ≡ new_jobs 1 l.fn.scripts)
    × (l.number + length (into_iter_items l.script-iterator) ≡ 1 + length l.fn.scripts)
    × (into_iter_len l.script-iterator ≡ length (into_iter_items l.script-iterator))

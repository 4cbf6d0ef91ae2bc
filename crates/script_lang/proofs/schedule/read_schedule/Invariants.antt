-- the jobs so far, and what the lines that are left stand for, are what the text stands for
use Rattle.std.proofs.Common.{◌≡◌, ◌≤◌, length, All}
use Rattle.script_lang.specs.Schedules.{schedule_of, read_entries}
use Rattle.script_lang.proofs.ResultLemmas.{after}
use Rattle.script_lang.proofs.schedule.read_schedule.Given as goal

abbrev pub invariant-lines : goal.invariant-lines
invariant-lines l = record {
  read : after l.schedule (read_entries l.jobs l.lines) ≡ schedule_of l.jobs l.text;
  within : All (λ job. job ≤ l.jobs) l.schedule;
}

abbrev pub decreases-lines : goal.decreases-lines
decreases-lines l = length l.lines

-- none of the reports so far has the line
use Rattle.std.proofs.Common.{◌≡◌, false, map, take}
use Rattle.std.specs.List.{list_any}
use Rattle.teseo_program.specs.Outcomes.{is_full}
use Rattle.teseo_program.proofs.outputs.is_full.Given as goal

abbrev pub invariant-jobs : goal.invariant-jobs
invariant-jobs l = list_any (list_any is_full) (map (λ job. job.answers) (take l.job-index l.job-items)) ≡ false

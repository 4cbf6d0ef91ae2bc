-- the rows of the lines so far
use Rattle.std.proofs.Common.{◌≡◌, ◌+◌, take}
use Rattle.source_run.specs.Leaves.{asked_in, counted}
use Rattle.source_run.proofs.leaves.rows_with.Given as goal

abbrev pub invariant-lines : goal.invariant-lines
invariant-lines l = l.rows ≡ counted (l.before + asked_in l.kind (take l.command-index l.script))

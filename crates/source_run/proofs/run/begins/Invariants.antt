-- the transactions of the lines so far
use Rattle.std.proofs.Common.{◌≡◌, take}
use Rattle.run_model.specs.Commands.{begun_by}
use Rattle.source_run.proofs.run.begins.Given as goal

abbrev pub invariant-lines : goal.invariant-lines
invariant-lines l = l.count ≡ begun_by 0 (take l.command-index l.script)

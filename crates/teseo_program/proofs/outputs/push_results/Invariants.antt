-- the results so far
use Rattle.std.proofs.Common.{◌≡◌, ◌++◌, map, take}
use Rattle.source_run.specs.JobRunner.Phases.{file_of}
use Rattle.teseo_program.specs.Sinks.{file_output}
use Rattle.teseo_program.proofs.outputs.push_results.Given as goal

abbrev pub invariant-tables : goal.invariant-tables
invariant-tables g l = l.outputs ≡ l.fn.outputs ++ map (λ t. file_output (file_of t)) (take l.named-index l.tables)

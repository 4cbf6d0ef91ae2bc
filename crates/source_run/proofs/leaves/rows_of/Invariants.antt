-- the rows of the graph and of the scripts so far
use Rattle.std.proofs.Common.{◌≡◌, take}
use Rattle.source_run.specs.Input.{inputs_of}
use Rattle.source_run.specs.Leaves.{most_rows, counted}
use Rattle.source_run.specs.Parsing.{meaning_of}
use Rattle.source_run.proofs.leaves.rows_of.Given as goal

abbrev pub invariant-scripts : goal.invariant-scripts
invariant-scripts l = l.rows ≡ counted (most_rows (record (inputs_of l.kind (meaning_of l.input)) { scripts = take l.script-index l.input.scripts }))

-- How many leaves the store of a run has.
use Rattle.std.specs.Prelude.{ℕ, ◌+◌, ◌/◌, min, List, sum_by, Option, Some, None}
use Rattle.graph_model.specs.declared.limits.TheConstants.{MAX_LEAVES, SPLIT_ROWS}
use Rattle.graph_model.specs.declared.write.Kind.{Kind}
use Rattle.graph_model.specs.Inserted.{inserted, inserted_by}
use Rattle.run_model.specs.declared.command.Command.{Command}
use Rattle.run_model.specs.Inputs.{Inputs}
use Rattle.run_model.specs.declared.command.Command.TheVariants as commands
use Rattle.command_words.specs.Words.{RunRequest}
use Rattle.source_run.specs.declared.leaves.TheConstants.{MOST_ROWS}
use Rattle.source_run.specs.Requests.{kind_of}
use Rattle.source_run.specs.Input.{Meaning, inputs_of}

-- the most rows that a line inserts
abbrev pub asked_by : Kind → Command → ℕ
asked_by kind commands.Begin = 0
asked_by kind commands.Commit = 0
asked_by kind commands.Abort = 0
asked_by kind (commands.Write w) = inserted_by kind w
asked_by kind (commands.Read query) = 0
asked_by kind (commands.Run kernel file) = 0

abbrev pub asked_in : Kind → List Command → ℕ
asked_in kind script = sum_by (asked_by kind) script

-- the most rows that the load and the lines of all scripts insert
abbrev pub most_rows : Inputs → ℕ
most_rows inputs = inserted inputs.kind inputs.load + sum_by (asked_in inputs.kind) inputs.scripts

-- counted up to as many rows as fill the greatest number of leaves
abbrev pub counted : ℕ → ℕ
counted rows = min MOST_ROWS rows

-- as many leaves as are stated, else as many as these rows can fill, within the limit
abbrev pub leaves_for : Option ℕ → ℕ → ℕ
leaves_for (Some leaves) rows = leaves
leaves_for None rows = min MAX_LEAVES (1 + rows / SPLIT_ROWS)

abbrev pub leaves_of : RunRequest → Meaning → ℕ
leaves_of request m = leaves_for request.leaves (most_rows (inputs_of (kind_of request) m))

-- What a run is given and what it gives.
use Rattle.std.specs.Prelude.{◌≡◌, ℕ, ◌≤◌, false, List, length, slice_get, Some}
use Rattle.std.specs.List.{AllByRecursion}
use Rattle.graph_model.specs.declared.limits.TheConstants.{MAX_SCRIPTS, MAX_BEGINS}
use Rattle.graph_model.specs.declared.write.Kind.{Kind}
use Rattle.graph_model.specs.declared.write.Write.{Write}
use Rattle.graph_model.specs.declared.journal.Commit.{Commit}
use Rattle.graph_model.specs.declared.table.Entry.{Entry}
use Rattle.graph_model.specs.Graph.{empty_graph}
use Rattle.graph_model.specs.Refused.{AllAllowed, IsWithinLimits}
use Rattle.run_model.specs.declared.command.Command.{Command}
use Rattle.run_model.specs.declared.answer.Answer.{Answer}
use Rattle.run_model.specs.Commands.{begun_by, IsScript}

-- the kind of graph, the writes of the load, the scripts
pub record Inputs : Type 0 where
  pub kind : Kind
  pub load : List Write
  pub scripts : List (List Command)

-- what can be run: the load is allowed on the empty graph, each script is one, and no number is
-- beyond its limit
pub record AreInputs (inputs : Inputs) : Type 0 where
  pub allowed : AllAllowed inputs.kind empty_graph inputs.load
  pub within : AllByRecursion IsWithinLimits inputs.load
  pub count : length inputs.scripts ≤ MAX_SCRIPTS
  pub scripts : (k : ℕ) (cs : List Command)
      → slice_get inputs.scripts k ≡ Some cs → IsScript (Some false) cs
  pub begins : (k : ℕ) (cs : List Command)
      → slice_get inputs.scripts k ≡ Some cs → begun_by 0 cs ≤ MAX_BEGINS

-- a kernel file: its name, and the table whose text it holds
pub record File : Type 0 where
  pub name : List ℕ
  pub table : List Entry

-- the journal, and for each script its report and its kernel files
pub record Outputs : Type 0 where
  pub journal : List Commit
  pub reports : List (List Answer)
  pub files : List (List File)

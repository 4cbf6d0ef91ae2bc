-- Laws of serialisable runs. Each is the contract of a function in `laws`.
use Rattle.std.specs.Prelude.{◌≡◌, ℕ, ◌≤◌, ◌<◌, true, false, List, slice_get, Some}
use Rattle.graph_model.specs.declared.write.Kind.{Kind}
use Rattle.graph_model.specs.declared.write.Kind.TheVariants.{Undirected}
use Rattle.graph_model.specs.declared.write.Write.{Write}
use Rattle.graph_model.specs.declared.row.Key.{Key}
use Rattle.graph_model.specs.declared.journal.Commit.{Commit}
use Rattle.graph_model.specs.Graph.{Graph, IsSymmetric}
use Rattle.graph_model.specs.History.{view}
use Rattle.graph_model.specs.Rows.{value_at}
use Rattle.run_model.specs.Inputs.{Inputs, AreInputs, Outputs}
use Rattle.run_model.specs.declared.command.Command.{Command}
use Rattle.serial_model.specs.Footprints.{depends, writes_in}
use Rattle.serial_model.specs.SerialTurns.{IsSeriallyStepped}
use Rattle.serial_model.specs.SerialRun.{HasSameAnswer, IsSerialRun}

-- a line has one answer on graphs that agree on its footprint
abbrev pub AnswersDependOnFootprints : Type 0
AnswersDependOnFootprints = (kind : Kind) (g h : Graph) (r : Command)
    → (kind ≡ Undirected → IsSymmetric g) → (kind ≡ Undirected → IsSymmetric h)
    → ((q : Key) → depends kind r q ≡ true → value_at g q ≡ value_at h q) → HasSameAnswer kind g h r

-- commits that write in no row of a line's footprint leave its answer, under whatever the transaction wrote itself
abbrev pub OtherCommitsLeaveAnswers : Type 0
OtherCommitsLeaveAnswers = (kind : Kind) (journal : List Commit) (start until : ℕ) (own : List Write) (r : Command)
    → start ≤ until
    → ((i : ℕ) (c : Commit) → slice_get journal i ≡ Some c → start ≤ i → i < until
    → writes_in kind (depends kind r) c.writes ≡ false)
    → HasSameAnswer kind (view kind journal start own) (view kind journal until own) r

-- what the turns give that refuse commits, for inputs that can be run, is a serialisable run
abbrev pub SerialSteppedRunsAreSerialRuns : Type 0
SerialSteppedRunsAreSerialRuns = (inputs : Inputs) (leaves : ℕ) (schedule : List ℕ) (outputs : Outputs)
    → AreInputs inputs → IsSeriallyStepped inputs leaves schedule outputs → IsSerialRun inputs leaves outputs

-- Laws of how runs end. Each is the contract of a function in `laws`.
use Rattle.std.specs.Prelude.{◌≡◌, ℕ, ◌^◌, ◌-◌, ◌*◌, ◌<◌, ◌≤◌, ◌⊎◌, List, length, take, slice_get, Some, None}
use Rattle.std.specs.List.{AllZip}
use Rattle.graph_model.specs.declared.limits.TheConstants.{MAX_LEAVES, MAX_SOURCE_BYTES, SPLIT_ROWS}
use Rattle.graph_model.specs.Inserted.{inserted}
use Rattle.run_model.specs.declared.answer.Answer.TheVariants.{Full}
use Rattle.run_model.specs.AnsweredLines.{AnsweredLine}
use Rattle.run_model.specs.Inputs.{Inputs, Outputs}
use Rattle.run_model.specs.Run.{IsRun, run_lines}
use Rattle.desk_io.specs.Files.{Files}
use Rattle.teseo_program.specs.declared.outcome.Outcome.{Outcome}
use Rattle.teseo_program.specs.declared.outcome.Outcome.TheVariants.{Done, NotRead, NotAccepted}
use Rattle.desk_io.specs.declared.sources.ReadStop.TheVariants.{TooLong}
use Rattle.source_run.specs.declared.fault.SourceFault.{SourceFault}
use Rattle.command_words.specs.Words.{RunRequest, MakeRequest}
use Rattle.teseo_program.specs.declared.left.Left.{Left}
use Rattle.source_run.specs.Requests.{source_names, kind_of}
use Rattle.source_run.specs.Input.{Meaning, texts_of, IsAccepted, IsNotAccepted, inputs_of}
use Rattle.source_run.specs.declared.leaves.TheConstants.{MOST_ROWS}
use Rattle.source_run.specs.Leaves.{leaves_for, most_rows}
use Rattle.teseo_program.specs.Outcomes.{status_of, IsRunOutcome, IsMakeOutcome}

-- the desk holds these bytes under the name, and they aren't too long
pub record IsTold (files : Files) (name bytes : List ℕ) : Type 0 where
  pub told : files.holds name ≡ Some bytes
  pub short : length bytes ≤ MAX_SOURCE_BYTES

-- the desk holds these sources
abbrev pub AreTold : RunRequest → Files → List (List ℕ) → Type 0
AreTold request files sources = AllZip (IsTold files) (source_names request) sources

-- a count of faults stands still, below its last value
pub record Stands (before now : ℕ) : Type 0 where
  pub same : now ≡ before
  pub below : before < 2 ^ 64 - 1

-- no call of the desk failed
pub record HasNoFault (old new : Files) : Type 0 where
  pub reads : Stands old.read_faults new.read_faults
  pub writes : Stands old.write_faults new.write_faults

-- a run whose sources are accepted, and that meets no fault, is done, or has no place for a row of the graph or of a
-- write, or wants memory
abbrev pub AcceptedRunsEndWell : Type 0
AcceptedRunsEndWell =
    (outcome : Outcome) (request : RunRequest) (sources : List (List ℕ)) (m : Meaning) (old new : Files)
    → AreTold request old sources → IsAccepted request (texts_of request sources) m → HasNoFault old new
    → (left left' : Left) → IsRunOutcome outcome request old new left left'
    → (outcome ≡ Done) ⊎ ((status_of outcome ≡ 6) ⊎ (status_of outcome ≡ 3))

-- and where no leaves are stated, and the rows of the load and of all lines together fill fewer leaves than there may
-- be, it is done, or wants memory: the status is 0 or 3
abbrev pub RunsWithRoomEndWell : Type 0
RunsWithRoomEndWell =
    (outcome : Outcome) (request : RunRequest) (sources : List (List ℕ)) (m : Meaning) (old new : Files)
    → request.leaves ≡ None → AreTold request old sources → IsAccepted request (texts_of request sources) m
    → most_rows (inputs_of (kind_of request) m) < SPLIT_ROWS * MAX_LEAVES → HasNoFault old new
    → (left left' : Left) → IsRunOutcome outcome request old new left left'
    → (status_of outcome ≡ 0) ⊎ (status_of outcome ≡ 3)

-- a graph that is asked for is made and written, if no fault is met, or memory is wanted
abbrev pub GraphsAreMade : Type 0
GraphsAreMade =
    (outcome : Outcome) (request : MakeRequest) (old new : Files) → HasNoFault old new
    → IsMakeOutcome outcome request old new → (outcome ≡ Done) ⊎ (status_of outcome ≡ 3)

-- ---- sources that are refused

-- a run of which a source isn't accepted names the first such source and its first fault, if no read fails, or wants
-- memory
abbrev pub FaultySourcesAreNamed : Type 0
FaultySourcesAreNamed =
    (outcome : Outcome) (request : RunRequest) (sources : List (List ℕ)) (place : ℕ) (fault : SourceFault)
    (old new : Files) → AreTold request old sources → IsNotAccepted request (texts_of request sources) place fault
    → Stands old.read_faults new.read_faults
    → (left left' : Left) → IsRunOutcome outcome request old new left left'
    → (outcome ≡ NotAccepted place fault) ⊎ (status_of outcome ≡ 3)

-- a source that the desk holds, with more bytes than a source may have
pub record IsLong (files : Files) (name bytes : List ℕ) : Type 0 where
  pub told : files.holds name ≡ Some bytes
  pub long : MAX_SOURCE_BYTES < length bytes

-- a run of which a source is too long, and those before it aren't, names that source, if no read fails, or wants memory
abbrev pub LongSourcesAreNamed : Type 0
LongSourcesAreNamed =
    (outcome : Outcome) (request : RunRequest) (place : ℕ) (before : List (List ℕ)) (name bytes : List ℕ)
    (old new : Files) → AllZip (IsTold old) (take place (source_names request)) before
    → slice_get (source_names request) place ≡ Some name → IsLong old name bytes
    → Stands old.read_faults new.read_faults
    → (left left' : Left) → IsRunOutcome outcome request old new left left'
    → (outcome ≡ NotRead (TooLong place)) ⊎ (status_of outcome ≡ 3)

-- ---- limits

-- the count of rows ends where they fill the greatest number of leaves
pub record LimitsAre : Type 0 where
  pub most_rows : MOST_ROWS ≡ SPLIT_ROWS * MAX_LEAVES

-- ---- room without stated leaves

-- A load finds its place where the rows of the load and of all lines together fill fewer than all leaves that there
-- may be.
abbrev pub LoadsFindRoom : Type 0
LoadsFindRoom =
    (inputs : Inputs) → most_rows inputs < SPLIT_ROWS * MAX_LEAVES
    → inserted inputs.kind inputs.load < SPLIT_ROWS * leaves_for None (most_rows inputs)

-- and no line is answered `full`
abbrev pub RunsFindRoom : Type 0
RunsFindRoom =
    (inputs : Inputs) (outputs : Outputs) → most_rows inputs < SPLIT_ROWS * MAX_LEAVES
    → IsRun inputs (leaves_for None (most_rows inputs)) outputs
    → (k i : ℕ) (ls : List AnsweredLine) (l : AnsweredLine)
    → slice_get (run_lines inputs outputs) k ≡ Some ls → slice_get ls i ≡ Some l → l.answer ≡ Full → ⊥

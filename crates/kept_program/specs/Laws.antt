-- Laws of how calls end. Each is the contract of a function in `laws`. They hold whatever disk it is.
use Rattle.std.specs.Prelude.{◌≡◌, ℕ, ◌*◌, ◌<◌, ◌≤◌, ◌⊎◌, List, length, take, slice_get, None, Some, IsTrue}
use Rattle.std.specs.List.{AllZip}
use Rattle.graph_model.specs.declared.limits.TheConstants.{MAX_LEAVES, SPLIT_ROWS}
use Rattle.graph_model.specs.declared.write.Kind.{Kind}
use Rattle.graph_model.specs.declared.journal.Commit.{Commit}
use Rattle.run_model.specs.Texts.{journal_text}
use Rattle.desk_io.specs.Files.{Files}
use Rattle.journal_disk.specs.Disk.{DiskState}
use Rattle.journal_recovery.specs.declared.texts.RecoveredTexts.{RecoveredTexts}
use Rattle.journal_recovery.specs.Texts.{AreTextsOf}
use Rattle.kept_run.specs.RunKeeper.Keeping.{HasFront, acknowledged_on}
use Rattle.command_words.specs.Words.{RunRequest, MakeRequest, RecoverRequest, Request, run, make, recover, IsTaken}
use Rattle.kept_run.specs.SourceRun.Requests.{kind_of, source_names}
use Rattle.kept_run.specs.SourceRun.Input.{Meaning, texts_of, IsAccepted, IsNotAccepted, inputs_of}
use Rattle.kept_run.specs.SourceRun.Leaves.{most_rows}
use Rattle.kept_run.specs.TeseoProgramDeclared.left.Left.{Left}
use Rattle.desk_io.specs.declared.sources.ReadStop.TheVariants.{TooLong}
use Rattle.kept_run.specs.SourceRunDeclared.fault.SourceFault.{SourceFault}
use Rattle.kept_run.specs.TeseoProgramDeclared.outcome.Outcome.TheVariants.{BadWords, NotRead, NotAccepted}
use Rattle.kept_run.specs.TeseoProgram.Laws.{IsTold, AreTold, IsLong, Stands, HasNoFault}
use Rattle.kept_program.specs.declared.outcome.KeptOutcome.{KeptOutcome}
use Rattle.kept_program.specs.declared.outcome.KeptOutcome.TheVariants.{Of}
use Rattle.kept_program.specs.Outcomes.{kept_status, IsEnd}

-- how a call ends that asks for this, if no call of the desk or of the disk fails
pub record IsFaultlessEnd {D : Type 0} (moment : D → ℕ) (may_leave : D → List ℕ → Type 0)
    (left_since : D → ℕ → List ℕ → Type 0) (request : Request) (outcome : KeptOutcome) (old new : Files)
    : Type 0 where
  pub words : List (List ℕ)
  pub taken : IsTaken words request
  pub no_fault : HasNoFault old new
  pub disk : DiskState
  pub disk' : DiskState
  pub stands : Stands disk.faults disk'.faults
  pub left : Left
  pub left' : Left
  pub now : D
  pub is_end : IsEnd (acknowledged_on moment may_leave left_since now) outcome words old new left left' disk disk'

-- a run whose sources are accepted ends with status 0, or with 6 where a row finds no place, or with 3
abbrev pub AcceptedCallsEndWell : {D : Type 0} → (D → ℕ) → (D → List ℕ → Type 0) → (D → ℕ → List ℕ → Type 0) → Type 0
AcceptedCallsEndWell moment may_leave left_since =
    (outcome : KeptOutcome) (request : RunRequest) (sources : List (List ℕ)) (m : Meaning) (old new : Files)
    → AreTold request old sources → IsAccepted request (texts_of request sources) m
    → IsFaultlessEnd moment may_leave left_since (run request) outcome old new
    → (kept_status outcome ≡ 0) ⊎ ((kept_status outcome ≡ 6) ⊎ (kept_status outcome ≡ 3))

-- with 0 or 3 where no leaves are stated, and the rows of the load and of all lines together fill fewer leaves than
-- there may be
abbrev pub CallsWithRoomEndWell : {D : Type 0} → (D → ℕ) → (D → List ℕ → Type 0) → (D → ℕ → List ℕ → Type 0) → Type 0
CallsWithRoomEndWell moment may_leave left_since =
    (outcome : KeptOutcome) (request : RunRequest) (sources : List (List ℕ)) (m : Meaning) (old new : Files)
    → request.leaves ≡ None → AreTold request old sources → IsAccepted request (texts_of request sources) m
    → most_rows (inputs_of (kind_of request) m) < SPLIT_ROWS * MAX_LEAVES
    → IsFaultlessEnd moment may_leave left_since (run request) outcome old new
    → (kept_status outcome ≡ 0) ⊎ (kept_status outcome ≡ 3)

-- a run of which a source isn't accepted says so of the first such source, with its first fault, or wants memory
abbrev pub FaultySourcesAreTold : {D : Type 0} → (D → ℕ) → (D → List ℕ → Type 0) → (D → ℕ → List ℕ → Type 0) → Type 0
FaultySourcesAreTold moment may_leave left_since =
    (outcome : KeptOutcome) (request : RunRequest) (sources : List (List ℕ)) (place : ℕ) (fault : SourceFault)
    (old new : Files) → AreTold request old sources → IsNotAccepted request (texts_of request sources) place fault
    → IsFaultlessEnd moment may_leave left_since (run request) outcome old new
    → (outcome ≡ Of (NotAccepted place fault)) ⊎ (kept_status outcome ≡ 3)

-- and one of which a source is too long, and those before it aren't, says so of that source
abbrev pub LongSourcesAreTold : {D : Type 0} → (D → ℕ) → (D → List ℕ → Type 0) → (D → ℕ → List ℕ → Type 0) → Type 0
LongSourcesAreTold moment may_leave left_since =
    (outcome : KeptOutcome) (request : RunRequest) (place : ℕ) (before : List (List ℕ)) (name bytes : List ℕ)
    (old new : Files) → AllZip (IsTold old) (take place (source_names request)) before
    → slice_get (source_names request) place ≡ Some name → IsLong old name bytes
    → IsFaultlessEnd moment may_leave left_since (run request) outcome old new
    → (outcome ≡ Of (NotRead (TooLong place))) ⊎ (kept_status outcome ≡ 3)

-- A call says `bad words` of words that are taken as no request, unless memory for them is wanted, and of no others.
pub record TellsBadWords (words : List (List ℕ)) (outcome : KeptOutcome) : Type 0 where
  pub untaken : (((request : Request) × IsTaken words request) → ⊥) → (outcome ≡ Of BadWords) ⊎ (kept_status outcome ≡ 3)
  pub bad : kept_status outcome ≡ 2 → ((request : Request) × IsTaken words request) → ⊥

-- so does each call, whatever its words
abbrev pub BadWordsAreTold : {D : Type 0} → (D → ℕ) → (D → List ℕ → Type 0) → (D → ℕ → List ℕ → Type 0) → Type 0
BadWordsAreTold {D = D} moment may_leave left_since =
    (now : D) (outcome : KeptOutcome) (words : List (List ℕ)) (old new : Files) (left left' : Left)
    (disk disk' : DiskState)
    → IsEnd (acknowledged_on moment may_leave left_since now) outcome words old new left left' disk disk'
    → TellsBadWords words outcome

-- a graph that is asked for is made, with status 0, or memory is wanted
abbrev pub CallsMakeGraphs : {D : Type 0} → (D → ℕ) → (D → List ℕ → Type 0) → (D → ℕ → List ℕ → Type 0) → Type 0
CallsMakeGraphs moment may_leave left_since =
    (outcome : KeptOutcome) (request : MakeRequest) (old new : Files)
    → IsFaultlessEnd moment may_leave left_since (make request) outcome old new
    → (kept_status outcome ≡ 0) ⊎ (kept_status outcome ≡ 3)

-- a file that is to be read back is, with status 0, or is no journal file, with 1, or memory is wanted
abbrev pub FilesAreRecovered : {D : Type 0} → (D → ℕ) → (D → List ℕ → Type 0) → (D → ℕ → List ℕ → Type 0) → Type 0
FilesAreRecovered moment may_leave left_since =
    (outcome : KeptOutcome) (request : RecoverRequest) (old new : Files)
    → IsFaultlessEnd moment may_leave left_since (recover request) outcome old new
    → (kept_status outcome ≡ 0) ⊎ ((kept_status outcome ≡ 1) ⊎ (kept_status outcome ≡ 3))

-- The status of a call is the one that its words and sources ask for, or 3. Of a run of accepted sources it is 0, or 6
-- where a row finds no place; 0 where no leaves are stated and the rows of the load and of all lines together fill fewer
-- leaves than there may be. Of a run of which a source isn't accepted or is too long it is 1, of a graph that is made 0,
-- of a journal file that is to be read back 0, or 1 where it is none, and 2 of words that ask for nothing, and of no
-- others.
pub record IsExactStatus (words : List (List ℕ)) (status : ℕ) (old : Files) : Type 0 where
  pub accepted : (request : RunRequest) (sources : List (List ℕ)) (m : Meaning) → IsTaken words (run request)
      → AreTold request old sources → IsAccepted request (texts_of request sources) m
      → (status ≡ 0) ⊎ ((status ≡ 6) ⊎ (status ≡ 3))
  pub roomy : (request : RunRequest) (sources : List (List ℕ)) (m : Meaning) → IsTaken words (run request)
      → request.leaves ≡ None → AreTold request old sources → IsAccepted request (texts_of request sources) m
      → most_rows (inputs_of (kind_of request) m) < SPLIT_ROWS * MAX_LEAVES → (status ≡ 0) ⊎ (status ≡ 3)
  pub faulty : (request : RunRequest) (sources : List (List ℕ)) (place : ℕ) (fault : SourceFault)
      → IsTaken words (run request) → AreTold request old sources
      → IsNotAccepted request (texts_of request sources) place fault → (status ≡ 1) ⊎ (status ≡ 3)
  pub long : (request : RunRequest) (place : ℕ) (before : List (List ℕ)) (name bytes : List ℕ)
      → IsTaken words (run request) → AllZip (IsTold old) (take place (source_names request)) before
      → slice_get (source_names request) place ≡ Some name → IsLong old name bytes → (status ≡ 1) ⊎ (status ≡ 3)
  pub made : (request : MakeRequest) → IsTaken words (make request) → (status ≡ 0) ⊎ (status ≡ 3)
  pub recovered : (request : RecoverRequest) → IsTaken words (recover request)
      → (status ≡ 0) ⊎ ((status ≡ 1) ⊎ (status ≡ 3))
  pub untaken : (((request : Request) × IsTaken words request) → ⊥) → (status ≡ 2) ⊎ (status ≡ 3)
  pub bad : status ≡ 2 → ((request : Request) × IsTaken words request) → ⊥

-- Behind a stop: where the disk reads as what a crash has left, a front of a run's journal with so many commits at
-- least, the text that is read back is that front's.
abbrev pub StopsAreReadBack : Type 0
StopsAreReadBack =
    (kind : Kind) (journal : List Commit) (least : ℕ) (image name : List ℕ) (disk : DiskState) (texts : RecoveredTexts)
    → HasFront kind journal least image → IsTrue disk.tells → disk.holds name ≡ Some image → AreTextsOf disk name texts
    → (count : ℕ) × (least ≤ count) × (count ≤ length journal) × (texts.journal ≡ journal_text (take count journal))

-- What is made before the first output is created, and why nothing is.
use Rattle.std.specs.Prelude.{◌≡◌, ◌≢◌, ℕ, ◌*◌, ◌≤◌, Bool, true, false, List, [], AllPairs}
use Rattle.graph_model.specs.declared.limits.TheConstants.{MAX_SOURCE_BYTES, SPLIT_ROWS}
use Rattle.graph_model.specs.declared.load.LoadRefusal.{LoadRefusal}
use Rattle.graph_model.specs.declared.load.LoadRefusal.TheVariants as refusals
use Rattle.graph_model.specs.Inserted.{inserted}
use Rattle.graphalytics_io.specs.Load.{load_of}
use Rattle.run_model.specs.Inputs.{Outputs}
use Rattle.desk_io.specs.Outputs.{NamedText, names_of, WritesAll, FailsAtPlace}
use Rattle.desk_io.specs.Files.{Files}
use Rattle.desk_io.specs.Sources.{AreRead, IsReadStop}
use Rattle.command_words.specs.Words.{RunRequest, MakeRequest}
use Rattle.source_run.specs.Requests.{source_names, report_names, kind_of}
use Rattle.teseo_program.specs.declared.outcome.Outcome.{Outcome}
use Rattle.teseo_program.specs.declared.outcome.Outcome.TheVariants.{Done, Full, LoadFull, BadWords, NotRead, NotAccepted, NoMemory, NotWritten}
use Rattle.teseo_program.specs.declared.prepare.Prepared.{Prepared}
use Rattle.source_run.specs.Input.{Meaning, texts_of, IsAccepted, inputs_of}
use Rattle.source_run.specs.Leaves.{leaves_of}
use Rattle.source_run.specs.declared.ran.Ran.{Ran}
use Rattle.source_run.specs.Running.{IsRunAs, IsLeftOf}
use Rattle.teseo_program.specs.Sinks.{sinks_of, summary_text}
use Rattle.teseo_program.specs.MadeGraphs.{graph_outputs, made_text}
use Rattle.teseo_program.specs.Outcomes.{Made, shows_full, left_of, AreOfRun, IsFullLoad, IsRefusedAt, OnlySays, said_text, blamed}

-- ---- why nothing was made

-- and what that leaves
abbrev pub IsUnprepared : RunRequest → Files → Files → Outcome → Type 0
IsUnprepared request old new (NotRead stop) = IsReadStop MAX_SOURCE_BYTES (source_names request) old new stop
IsUnprepared request old new (NotAccepted place fault) = IsRefusedAt request old place fault × (new ≡ old)
IsUnprepared request old new NoMemory = new ≡ old
IsUnprepared request old new Done = ⊥
IsUnprepared request old new Full = ⊥
IsUnprepared request old new LoadFull = IsFullLoad request old × (new ≡ old)
IsUnprepared request old new BadWords = ⊥
IsUnprepared request old new (NotWritten stop) = ⊥

-- all sources were read and accepted, and stand for this
abbrev pub AreAccepted : RunRequest → Files → Meaning → Type 0
AreAccepted request files m =
    (sources : List (List ℕ)) × AreRead MAX_SOURCE_BYTES files (source_names request) sources
    × IsAccepted request (texts_of request sources) m

-- ---- what was made

abbrev pub made_of : Outputs → Ran → Prepared → Made
made_of run ran p = record { run = run; ran = ran; outputs = p.outputs; summary = p.summary }

-- of a run of these files
pub record IsPreparedOf (request : RunRequest) (files : Files) (p : Prepared) : Type 0 where
  pub run : Outputs
  pub ran : Ran
  pub of_run : AreOfRun request files (made_of run ran p)
  pub full : shows_full run ≡ p.is_full
  pub left : p.left ≡ left_of ran

-- of a run of what the sources stand for
pub record IsMadeOf (request : RunRequest) (m : Meaning) (p : Prepared) : Type 0 where
  pub outputs : Outputs
  pub ran : Ran
  pub run : IsRunAs request.is_serial (inputs_of (kind_of request) m) (leaves_of request m) outputs
  pub left_by : IsLeftOf request.threads request.is_serial (inputs_of (kind_of request) m) (leaves_of request m)
      m.schedule outputs ran
  pub outputs_are : p.outputs ≡ sinks_of request.journal (report_names request) outputs
  pub summary_is : p.summary ≡ summary_text (kind_of request) outputs
  pub full : shows_full outputs ≡ p.is_full
  pub left : p.left ≡ left_of ran

-- why nothing was made of what the sources stand for: the rows of the graph may fill the leaves, or memory is wanted
abbrev pub IsLoadStop : RunRequest → Meaning → LoadRefusal → Type 0
IsLoadStop request m (refusals.Full full) =
    SPLIT_ROWS * leaves_of request m ≤ inserted (kind_of request) (load_of m.ids m.edges)
IsLoadStop request m refusals.NoMemory = Unit {0}

-- the texts of a graph were made
pub record IsMadeGraph (request : MakeRequest) (p : Prepared) : Type 0 where
  pub outputs_are : p.outputs ≡ graph_outputs request
  pub summary_is : p.summary ≡ made_text request
  pub never_full : p.is_full ≡ false

-- the outputs have names that differ
abbrev pub NamesAreApart : Prepared → Type 0
NamesAreApart p = AllPairs (λ a b. a ≢ b) (names_of p.outputs)

-- how writing the outputs ends, where a report has a line `full` or not
abbrev pub Writes : Bool → List NamedText → Outcome → Files → Files → Type 0
Writes is_full outputs Done old new = (is_full ≡ false) × WritesAll outputs old new
Writes is_full outputs Full old new = (is_full ≡ true) × WritesAll outputs old new
Writes is_full outputs LoadFull old new = ⊥
Writes is_full outputs BadWords old new = ⊥
Writes is_full outputs (NotRead stop) old new = ⊥
Writes is_full outputs (NotAccepted place fault) old new = ⊥
Writes is_full outputs NoMemory old new = ⊥
Writes is_full outputs (NotWritten stop) old new = FailsAtPlace outputs stop.place old new

-- the outputs are written, and how that went is said
pub record IsWritten (p : Prepared) (outcome : Outcome) (old new : Files) : Type 0 where
  -- the files before the outcome was said
  pub before : Files
  pub writes : Writes p.is_full p.outputs outcome old before
  pub says : OnlySays (said_text (blamed [] (names_of p.outputs) outcome) p.summary outcome) before new

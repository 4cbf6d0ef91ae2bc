-- How a run may end: for each outcome its cause, what it leaves, and what is said.
use Rattle.std.specs.Prelude.{◌≡◌, ℕ, ◌*◌, ◌≤◌, Bool, true, false, List, [], ◌∷◌, ◌++◌, codes, IfSome, decimal}
use Rattle.std.specs.List.{list_any}
use Rattle.graph_model.specs.declared.limits.TheConstants.{MAX_SOURCE_BYTES, SPLIT_ROWS}
use Rattle.graph_model.specs.declared.load.LoadRefusal.{LoadRefusal}
use Rattle.graph_model.specs.declared.load.LoadRefusal.TheVariants as loads
use Rattle.graph_model.specs.Inserted.{inserted}
use Rattle.graphalytics_io.specs.Load.{load_of}
use Rattle.run_model.specs.declared.answer.Answer.{Answer}
use Rattle.run_model.specs.declared.answer.Answer.TheVariants as answers
use Rattle.run_model.specs.Inputs.{Outputs}
use Rattle.desk_io.specs.Files.{Files}
use Rattle.desk_io.specs.Sources.{AreRead, IsReadStop}
use Rattle.desk_io.specs.Outputs.{NamedText, names_of, WritesAll, FailsAtPlace}
use Rattle.desk_io.specs.declared.sources.ReadStop.{ReadStop}
use Rattle.desk_io.specs.declared.sources.ReadStop.TheVariants as reads
use Rattle.source_run.specs.GraphFiles.Faults as graph_faults
use Rattle.source_run.specs.ScriptLang.Faults.{what_text, schedule_what_text}
use Rattle.command_words.specs.declared.refusal.WordsRefusal.{WordsRefusal}
use Rattle.command_words.specs.declared.refusal.WordsRefusal.TheVariants as word_refusals
use Rattle.command_words.specs.Words.{RunRequest, MakeRequest}
use Rattle.source_run.specs.Requests.{source_names, report_names, name_at, kind_of}
use Rattle.source_run.specs.declared.fault.SourceFault.{SourceFault}
use Rattle.source_run.specs.declared.fault.SourceFault.TheVariants as faults
use Rattle.source_run.specs.declared.fault.ParseStop.{ParseStop}
use Rattle.source_run.specs.declared.fault.ParseStop.TheVariants as parses
use Rattle.teseo_program.specs.declared.outcome.Outcome.{Outcome}
use Rattle.teseo_program.specs.declared.outcome.Outcome.TheVariants.{Done, Full, LoadFull, BadWords, NotRead, NotAccepted, NoMemory, NotWritten}
use Rattle.source_run.specs.Input.{Meaning, Texts, texts_of, IsAccepted, IsNotAccepted, inputs_of}
use Rattle.source_run.specs.Leaves.{leaves_of}
use Rattle.teseo_program.specs.declared.left.Left.{Left}
use Rattle.teseo_program.specs.declared.left.Left.TheVariants.{Stepped, Shared}
use Rattle.source_run.specs.declared.ran.Ran.{Ran}
use Rattle.source_run.specs.declared.ran.Ran.TheVariants as rans
use Rattle.source_run.specs.Running.{IsRunAs, IsLeftOf}
use Rattle.teseo_program.specs.Sinks.{sinks_of, summary_text}
use Rattle.teseo_program.specs.MadeGraphs.{graph_outputs, made_text}

-- ---- the status

abbrev pub read_status : ReadStop → ℕ
read_status (reads.Fault place) = 4
read_status (reads.TooLong place) = 1
read_status reads.NoMemory = 3

-- the exit status of each outcome
abbrev pub status_of : Outcome → ℕ
status_of Done = 0
status_of Full = 6
status_of LoadFull = 6
status_of BadWords = 2
status_of (NotRead stop) = read_status stop
status_of (NotAccepted place fault) = 1
status_of NoMemory = 3
status_of (NotWritten stop) = 5

-- why the sources weren't parsed is how the run ends
abbrev pub outcome_of_parse : ParseStop → Outcome
outcome_of_parse (parses.NotAccepted place fault) = NotAccepted place fault
outcome_of_parse parses.NoMemory = NoMemory

-- why the graph wasn't loaded is how the run ends
abbrev pub outcome_of_load : LoadRefusal → Outcome
outcome_of_load (loads.Full leaves) = LoadFull
outcome_of_load loads.NoMemory = NoMemory

-- why the words weren't read is how the call ends
abbrev pub outcome_of_words : WordsRefusal → Outcome
outcome_of_words word_refusals.BadWords = BadWords
outcome_of_words word_refusals.NoMemory = NoMemory

-- ---- what is said

abbrev pub blamed_source : List (List ℕ) → ReadStop → List ℕ
blamed_source sources (reads.Fault place) = name_at sources place
blamed_source sources (reads.TooLong place) = name_at sources place
blamed_source sources reads.NoMemory = []

-- the name that an outcome blames, if it blames one
abbrev pub blamed : List (List ℕ) → List (List ℕ) → Outcome → List ℕ
blamed sources outputs Done = []
blamed sources outputs Full = []
blamed sources outputs LoadFull = []
blamed sources outputs BadWords = []
blamed sources outputs (NotRead stop) = blamed_source sources stop
blamed sources outputs (NotAccepted place fault) = name_at sources place
blamed sources outputs NoMemory = []
blamed sources outputs (NotWritten stop) = name_at outputs stop.place

-- a text behind a name or before one, and a line feed
abbrev pub text_line : List ℕ → List ℕ → List ℕ
text_line front behind = front ++ behind ++ 10 ∷ []

abbrev pub read_text : List ℕ → ReadStop → List ℕ
read_text name (reads.Fault place) = text_line (codes "read failed ") name
read_text name (reads.TooLong place) = text_line name (codes ": too long")
read_text name reads.NoMemory = codes "no memory\n"

-- a line of a source, and what is wrong with it
abbrev pub line_text : List ℕ → ℕ → List ℕ → List ℕ
line_text name line what = name ++ codes " line " ++ decimal line ++ codes ": " ++ what ++ 10 ∷ []

abbrev pub fault_text : List ℕ → SourceFault → List ℕ
fault_text name (faults.Graph fault) = line_text name fault.line (graph_faults.what_text fault.what)
fault_text name (faults.Script line what) = line_text name line (what_text what)
fault_text name (faults.Schedule line what) = line_text name line (schedule_what_text what)

-- what is said of each outcome, by the name that it blames and the summary
abbrev pub said_text : List ℕ → List ℕ → Outcome → List ℕ
said_text name summary Done = summary
said_text name summary Full = summary
said_text name summary LoadFull = codes "load full\n"
said_text name summary BadWords = codes "bad words\n"
said_text name summary (NotRead stop) = read_text name stop
said_text name summary (NotAccepted place fault) = fault_text name fault
said_text name summary NoMemory = codes "no memory\n"
said_text name summary (NotWritten stop) = text_line (codes "write failed ") name

-- the text was said at the end of the output, where that is told, and nothing else happened
pub record OnlySays (text : List ℕ) (old new : Files) : Type 0 where
  pub rest : new ≡ record old { said = new.said }
  pub says : IfSome new.said (λ all. IfSome old.said (λ before. all ≡ before ++ text))

-- how the run ended was said, with the name of the source or output that this blames, or with the summary
abbrev pub SaysOutcome : RunRequest → List NamedText → List ℕ → Outcome → Files → Files → Type 0
SaysOutcome request outputs summary outcome old new =
    OnlySays (said_text (blamed (source_names request) (names_of outputs) outcome) summary outcome) old new

-- ---- the causes

-- what a run gives, the store that is left of it, the texts, each with its name, and the summary
pub record Made : Type 0 where
  pub run : Outputs
  pub ran : Ran
  pub outputs : List NamedText
  pub summary : List ℕ

abbrev pub is_full : Answer → Bool
is_full (answers.Begun by start) = false
is_full answers.Done = false
is_full answers.Exists = false
is_full answers.SelfLoop = false
is_full (answers.NoVertex v) = false
is_full answers.NoEdge = false
is_full answers.HasEdges = false
is_full (answers.Conflict cause) = false
is_full answers.Full = true
is_full (answers.Weight weight) = false
is_full answers.Nothing = false
is_full (answers.Neighbours targets) = false
is_full (answers.Counted vertices edges) = false
is_full (answers.Table entries) = false
is_full (answers.Committed stamp) = false
is_full answers.Aborted = false
is_full answers.Skipped = false

-- a report has a line `full`
abbrev pub shows_full : Outputs → Bool
shows_full o = list_any (list_any is_full) o.reports

-- what was made is a run of what these texts mean, a serialisable one where that is asked for: by the turns that the
-- schedule gives, or on threads
pub record IsOfTexts (request : RunRequest) (texts : Texts) (made : Made) : Type 0 where
  pub m : Meaning
  pub accepted : IsAccepted request texts m
  pub run : IsRunAs request.is_serial (inputs_of (kind_of request) m) (leaves_of request m) made.run
  pub left : IsLeftOf request.threads request.is_serial (inputs_of (kind_of request) m) (leaves_of request m) m.schedule
      made.run made.ran
  pub outputs_are : made.outputs ≡ sinks_of request.journal (report_names request) made.run
  pub summary_is : made.summary ≡ summary_text (kind_of request) made.run

-- what is held under the sources' names was read whole, and what was made is a run of it
pub record AreOfRun (request : RunRequest) (files : Files) (made : Made) : Type 0 where
  pub sources : List (List ℕ)
  pub read : AreRead MAX_SOURCE_BYTES files (source_names request) sources
  pub of_texts : IsOfTexts request (texts_of request sources) made

-- all sources were read, and the one at the place is the first with a fault
abbrev pub IsRefusedAt : RunRequest → Files → ℕ → SourceFault → Type 0
IsRefusedAt request files place fault =
    (sources : List (List ℕ)) × AreRead MAX_SOURCE_BYTES files (source_names request) sources
    × IsNotAccepted request (texts_of request sources) place fault

-- all sources were read and accepted, and the rows of the graph may fill as many leaves as the store has
abbrev pub IsFullLoad : RunRequest → Files → Type 0
IsFullLoad request files =
    (sources : List (List ℕ)) × AreRead MAX_SOURCE_BYTES files (source_names request) sources
    × (m : Meaning) × IsAccepted request (texts_of request sources) m
    × (SPLIT_ROWS * leaves_of request m ≤ inserted (kind_of request) (load_of m.ids m.edges))

-- all is written of a run whose reports show `full`, or don't
pub record IsWhole (is_full : Bool) (request : RunRequest) (made : Made) (old new : Files) : Type 0 where
  pub of_run : AreOfRun request old made
  pub shows : shows_full made.run ≡ is_full
  pub writes : WritesAll made.outputs old new

-- what led to an outcome whose words are taken, and what it leaves before it is said
abbrev pub IsCause : Outcome → RunRequest → Made → Files → Files → Type 0
IsCause Done request made old new = IsWhole false request made old new
IsCause Full request made old new = IsWhole true request made old new
IsCause LoadFull request made old new = IsFullLoad request old × (new ≡ old)
IsCause BadWords request made old new = ⊥
IsCause (NotRead stop) request made old new = IsReadStop MAX_SOURCE_BYTES (source_names request) old new stop
IsCause (NotAccepted place fault) request made old new = IsRefusedAt request old place fault × (new ≡ old)
IsCause NoMemory request made old new = new ≡ old
IsCause (NotWritten stop) request made old new =
    AreOfRun request old made × FailsAtPlace made.outputs stop.place old new

-- what ran, as it is left
abbrev pub left_of : Ran → Left
left_of (rans.Stepped ran) = Stepped ran
left_of (rans.Shared ran) = Shared ran

-- what is left behind an outcome: of a run whose outputs were all written, what it has left, else what there was
abbrev pub IsLeft : Outcome → Left → Left → Left → Type 0
IsLeft Done ran old new = new ≡ ran
IsLeft Full ran old new = new ≡ ran
IsLeft LoadFull ran old new = new ≡ old
IsLeft BadWords ran old new = new ≡ old
IsLeft (NotRead stop) ran old new = new ≡ old
IsLeft (NotAccepted place fault) ran old new = new ≡ old
IsLeft NoMemory ran old new = new ≡ old
IsLeft (NotWritten stop) ran old new = new ≡ old

-- how a run ends whose words are taken: its cause, what is said then, and what is left
pub record IsRunOutcome (outcome : Outcome) (request : RunRequest) (old new : Files) (left left' : Left)
    : Type 0 where
  -- what was made, where it came to that
  pub made : Made
  -- the files before the outcome was said
  pub before : Files
  pub cause : IsCause outcome request made old before
  pub says : SaysOutcome request made.outputs made.summary outcome before new
  pub left_is : IsLeft outcome (left_of made.ran) left left'

-- ---- the end of `make`

-- what led to an outcome of `make`, and what it leaves before it is said
abbrev pub IsMakeCause : Outcome → MakeRequest → Files → Files → Type 0
IsMakeCause Done request old new = WritesAll (graph_outputs request) old new
IsMakeCause Full request old new = ⊥
IsMakeCause LoadFull request old new = ⊥
IsMakeCause BadWords request old new = ⊥
IsMakeCause (NotRead stop) request old new = ⊥
IsMakeCause (NotAccepted place fault) request old new = ⊥
IsMakeCause NoMemory request old new = new ≡ old
IsMakeCause (NotWritten stop) request old new = FailsAtPlace (graph_outputs request) stop.place old new

-- how `make` ends: its cause, and then what is said
pub record IsMakeOutcome (outcome : Outcome) (request : MakeRequest) (old new : Files) : Type 0 where
  -- the files before the outcome was said
  pub before : Files
  pub cause : IsMakeCause outcome request old before
  pub says : OnlySays
      (said_text (blamed [] (names_of (graph_outputs request)) outcome) (made_text request) outcome) before new

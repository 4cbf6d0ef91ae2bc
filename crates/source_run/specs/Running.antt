-- What the run of the scripts leaves, as the code has it.
use Rattle.std.specs.Prelude.{◌≡◌, ℕ, suc, ◌+◌, ◌-◌, ◌*◌, ◌^◌, ◌<◌, ◌≤◌, ◌⊎◌, min, Bool, true, false, List, length, All, slice_get, Option, Some, None}
use Rattle.std.specs.List.{AllByRecursion}
use Rattle.graph_model.specs.declared.limits.TheConstants.{SPLIT_ROWS, MAX_LEAVES, MAX_PASSES}
use Rattle.graph_model.specs.declared.journal.Commit.{Commit}
use Rattle.graph_model.specs.declared.write.Kind.{Kind}
use Rattle.graph_model.specs.Inserted.{inserted}
use Rattle.graph_model.specs.Graph.{vertices_of}
use Rattle.graph_model.specs.History.{graph_at}
use Rattle.graph_model.specs.OwnerCalls.{Core}
use Rattle.graphalytics_io.specs.declared.edges.Edge.{Edge}
use Rattle.graphalytics_io.specs.Load.{load_of}
use Rattle.run_model.specs.declared.command.Command.{Command}
use Rattle.run_model.specs.Commands.{begun_by}
use Rattle.run_model.specs.Answering.{edges_in}
use Rattle.run_model.specs.Inputs.{Inputs, Outputs}
use Rattle.run_model.specs.Run.{IsRun}
use Rattle.run_model.specs.Stepped.{IsStepped, service_turns}
use Rattle.serial_model.specs.SerialTurns.{IsSeriallyStepped}
use Rattle.serial_model.specs.SerialRun.{IsSerialRun}
use Rattle.script_lang.specs.FieldFaults.{IsNameByte}
use Rattle.txn_manager.specs.declared.config.Config.{Config}
use Rattle.txn_manager.specs.declared.config.Totals.{Totals}
use Rattle.graph_model.specs.declared.load.LoadRefusal.{LoadRefusal}
use Rattle.graph_model.specs.declared.load.LoadRefusal.TheVariants as refusals
use Rattle.serial_runner.specs.TeseoCore.Keeping.{LeftStore, new_core}
use Rattle.threaded_run.specs.SharedRuns.Closing.{LeavesRun, outputs_with}
use Rattle.serial_runner.specs.JobRunner.Progress.{Progress}
use Rattle.serial_runner.specs.JobRunner.Runs.{HaveDone, Ends}
use Rattle.serial_runner.specs.SerialRuns.{SerialEnds}
use Rattle.source_run.specs.declared.input.Input.{Input}
use Rattle.source_run.specs.declared.run.SteppedRun.{SteppedRun}
use Rattle.source_run.specs.declared.ran.Ran.{Ran}
use Rattle.source_run.specs.declared.ran.Ran.TheVariants.{Stepped, Shared}
use Rattle.source_run.specs.declared.ran.RunResult.{RunResult}
use Rattle.source_run.specs.Input.{inputs_of}
use Rattle.source_run.specs.Parsing.{meaning_of}

-- the journal, the reports and the kernel files of a run by turns
abbrev pub stepped_outputs : SteppedRun → Outputs
stepped_outputs r = outputs_with r.ran.core.journal r.jobs

-- the journal of what ran
abbrev pub journal_of : Ran → List Commit
journal_of (Stepped ran) = ran.core.journal
journal_of (Shared ran) = ran.journal

-- the journal, the reports and the kernel files
abbrev pub run_outputs : RunResult → Outputs
run_outputs r = outputs_with (journal_of r.ran) r.jobs

-- What a run by turns leaves: the run is one of these inputs on so many leaves, by the turns of the schedule, and the
-- engine has its journal, has done for each script what its lines were answered, has counted the service's turns, and
-- was settled.
pub record IsLeftBy (inputs : Inputs) (leaves : ℕ) (schedule : List ℕ) (run : Outputs) (ran : LeftStore)
    : Type 0 where
  pub stepped : IsStepped inputs leaves schedule run
  pub journal : ran.core.journal ≡ run.journal
  pub passes : HaveDone inputs.scripts run.reports ran.core
  pub served : ran.core.served ≡ min (service_turns (length inputs.scripts) schedule stepped.turns) (2 ^ 64 - 1)
  pub settled : ran.settled ≡ true

-- the same of a run by turns that refuse commits
pub record IsSeriallyLeftBy (inputs : Inputs) (leaves : ℕ) (schedule : List ℕ) (run : Outputs) (ran : LeftStore)
    : Type 0 where
  pub stepped : IsSeriallyStepped inputs leaves schedule run
  pub journal : ran.core.journal ≡ run.journal
  pub passes : HaveDone inputs.scripts run.reports ran.core
  pub served : ran.core.served ≡ min (service_turns (length inputs.scripts) schedule stepped.turns) (2 ^ 64 - 1)
  pub settled : ran.settled ≡ true

-- what ran is a run, or a serialisable one, where that is asked for
abbrev pub IsRunAs : Bool → Inputs → ℕ → Outputs → Type 0
IsRunAs false inputs leaves run = IsRun inputs leaves run
IsRunAs true inputs leaves run = IsSerialRun inputs leaves run

-- and it ran by such turns
abbrev pub IsLeftAs : Bool → Inputs → ℕ → List ℕ → Outputs → LeftStore → Type 0
IsLeftAs false inputs leaves schedule run ran = IsLeftBy inputs leaves schedule run ran
IsLeftAs true inputs leaves schedule run ran = IsSeriallyLeftBy inputs leaves schedule run ran

-- What ran: by turns an engine of one owner, which was left so; on threads a store of many passes, whose passes leave
-- the run
abbrev pub IsLeftOf : Option ℕ → Bool → Inputs → ℕ → List ℕ → Outputs → Ran → Type 0
IsLeftOf None is_serial inputs leaves schedule run (Stepped ran) = IsLeftAs is_serial inputs leaves schedule run ran
IsLeftOf None is_serial inputs leaves schedule run (Shared ran) = ⊥
IsLeftOf (Some workers) is_serial inputs leaves schedule run (Stepped ran) = ⊥
IsLeftOf (Some workers) is_serial inputs leaves schedule run (Shared ran) =
    (ran.journal ≡ run.journal) × LeavesRun inputs leaves run

-- how the jobs of a run end by such turns
abbrev pub EndsAs : Bool → Inputs → List ℕ → Core → Core → List Progress → Type 0
EndsAs false inputs schedule old new jobs = Ends inputs schedule old new jobs
EndsAs true inputs schedule old new jobs = SerialEnds inputs schedule old new jobs

-- what was left is of a run of this input
abbrev pub IsSteppedRun : Bool → Kind → ℕ → Input → SteppedRun → Type 0
IsSteppedRun is_serial kind leaves input r =
    IsLeftAs is_serial (inputs_of kind (meaning_of input)) leaves input.schedule (stepped_outputs r) r.ran

-- the names of all kernel files are printable ASCII
abbrev pub HavePrintableNames : List Progress → Type 0
HavePrintableNames jobs = AllByRecursion (λ job. AllByRecursion (λ t. All IsNameByte t.name) job.tables) jobs

-- the counts are those of the journal's graph, in a settled store
pub record HasCounts (kind : Kind) (journal : List Commit) (totals : Totals) : Type 0 where
  pub vertices : totals.vertices ≡ length (vertices_of (graph_at kind journal (length journal)))
  pub edges : totals.edges ≡ edges_in kind (graph_at kind journal (length journal))
  pub undo : totals.undo ≡ 0
  pub retired : totals.retired ≡ 0

-- ---- the engine

-- the rows of the load fill no store of as many leaves as there may be
abbrev pub Fits : Kind → List ℕ → List Edge → Type 0
Fits kind ids edges = inserted kind (load_of ids edges) < SPLIT_ROWS * MAX_LEAVES

-- no script begins more transactions
abbrev pub MayBegin : List (List Command) → ℕ → Type 0
MayBegin scripts most =
    (k : ℕ) (commands : List Command) → slice_get scripts k ≡ Some commands → begun_by 0 commands ≤ most

-- one of the scripts begins so many
abbrev pub Begins : List (List Command) → ℕ → Type 0
Begins scripts count =
    (k : ℕ) × (commands : List Command) × (slice_get scripts k ≡ Some commands) × (begun_by 0 commands ≡ count)

-- So many leaves, a pass for each script, and one for the load. A pass may begin as many transactions as the script
-- with most of them, and at least one.
pub record IsConfig (kind : Kind) (leaves : ℕ) (scripts : List (List Command)) (config : Config) : Type 0 where
  pub kind_is : config.kind ≡ kind
  pub leaves_are : config.leaves ≡ leaves
  pub passes : config.passes ≡ suc (length scripts)
  pub begins : MayBegin scripts config.txns_per_pass
  pub some : 0 < config.txns_per_pass
  pub no_more : (config.txns_per_pass ≡ 1) ⊎ Begins scripts config.txns_per_pass

-- The same with passes by which kernels read, behind those of the load and of the scripts: one for each thread, or as
-- many as a store may still have
abbrev pub with_readers : ℕ → Config → Config
with_readers threads config = record config { passes = config.passes + min threads (MAX_PASSES - config.passes) }

-- the engine of some scripts before its first call
abbrev pub IsNewEngine : Core → Type 0
IsNewEngine core =
    (kind : Kind) × (leaves : ℕ) × (scripts : List (List Command)) × (config : Config)
    × IsConfig kind leaves scripts config × (core ≡ new_core config)

-- why a load was refused: its rows may fill so many leaves, or memory is wanted
abbrev pub IsRefusedLoad : Kind → ℕ → List ℕ → List Edge → LoadRefusal → Type 0
IsRefusedLoad kind leaves ids edges (refusals.Full full) = SPLIT_ROWS * leaves ≤ inserted kind (load_of ids edges)
IsRefusedLoad kind leaves ids edges refusals.NoMemory = Unit {0}

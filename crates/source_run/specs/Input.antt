-- What the sources stand for, and why they are refused.
use Rattle.std.specs.Prelude.{◌≡◌, ℕ, zero, suc, ◌+◌, cond, List, [], ◌∷◌, ◌++◌, length, get_or, take, drop, Option, Some, None, is_some, Result, Ok, Err}
use Rattle.graph_model.specs.declared.limits.TheConstants.{MAX_LOAD_ROWS}
use Rattle.graph_model.specs.declared.write.Kind.{Kind}
use Rattle.run_model.specs.declared.command.Command.{Command}
use Rattle.run_model.specs.Inputs.{Inputs}
use Rattle.graphalytics_io.specs.declared.edges.Edge.{Edge}
use Rattle.graphalytics_io.specs.Load.{load_of}
use Rattle.graph_files.specs.declared.refusal.Fault.{Fault}
use Rattle.graph_files.specs.VertexFiles.{vertices_of}
use Rattle.graph_files.specs.EdgeFiles.{edges_of}
use Rattle.script_lang.specs.declared.refusal.ScriptRefusal.TheVariants as scripts
use Rattle.script_lang.specs.declared.refusal.ScheduleRefusal.TheVariants as schedules
use Rattle.script_lang.specs.Scripts.{files_of, script_of}
use Rattle.script_lang.specs.Schedules.{schedule_of}
use Rattle.command_words.specs.Words.{RunRequest, taken_names}
use Rattle.source_run.specs.Requests.{rules_of}
use Rattle.source_run.specs.declared.fault.SourceFault.{SourceFault}
use Rattle.source_run.specs.declared.fault.SourceFault.TheVariants as faults

-- the bytes of the sources
pub record Texts : Type 0 where
  pub vertices : List ℕ
  pub edges : List ℕ
  pub scripts : List (List ℕ)
  pub schedule : Option (List ℕ)

-- what was read under the names of the sources, each by what it is the text of
abbrev pub texts_of : RunRequest → List (List ℕ) → Texts
texts_of request sources = record {
  vertices = get_or sources 0 [];
  edges = get_or sources 1 [];
  scripts = take (length request.scripts) (drop 2 sources);
  schedule = cond (is_some request.schedule) (Some (get_or sources (length request.scripts + 2) [])) None;
}

-- what the sources stand for
pub record Meaning : Type 0 where
  pub ids : List ℕ
  pub edges : List Edge
  pub scripts : List (List Command)
  pub schedule : List ℕ

-- each text is a script, where these names and the files of the scripts before it are taken
abbrev pub AreScripts : List (List ℕ) → List (List ℕ) → List (List Command) → Type 0
AreScripts taken [] scripts = scripts ≡ []
AreScripts taken (text ∷ texts) [] = ⊥
AreScripts taken (text ∷ texts) (script ∷ scripts) =
    (script_of taken text ≡ Ok script) × AreScripts (taken ++ files_of script) texts scripts

-- without a schedule there are no entries
abbrev pub IsSchedule : ℕ → Option (List ℕ) → List ℕ → Type 0
IsSchedule jobs None schedule = schedule ≡ []
IsSchedule jobs (Some text) schedule = schedule_of jobs text ≡ Ok schedule

-- the sources are accepted, and stand for this
pub record IsAccepted (request : RunRequest) (texts : Texts) (m : Meaning) : Type 0 where
  pub vertices : vertices_of MAX_LOAD_ROWS texts.vertices ≡ Ok m.ids
  pub edges : edges_of (rules_of request m.ids) texts.edges ≡ Ok m.edges
  pub scripts : AreScripts (taken_names request) texts.scripts m.scripts
  pub schedule : IsSchedule (length request.scripts) texts.schedule m.schedule

-- what a graph file stands for is this fault
abbrev pub HasGraphFault : {X : Type 0} → Result X Fault → SourceFault → Type 0
HasGraphFault meaning (faults.Graph fault) = meaning ≡ Err fault
HasGraphFault meaning (faults.Script line what) = ⊥
HasGraphFault meaning (faults.Schedule line what) = ⊥

-- the schedule has this fault
abbrev pub HasScheduleFault : ℕ → Option (List ℕ) → SourceFault → Type 0
HasScheduleFault jobs None fault = ⊥
HasScheduleFault jobs (Some text) (faults.Graph fault) = ⊥
HasScheduleFault jobs (Some text) (faults.Script line what) = ⊥
HasScheduleFault jobs (Some text) (faults.Schedule line what) = schedule_of jobs text ≡ Err (schedules.Fault line what)

-- the text is no script, and this is its first fault
abbrev pub HasScriptFault : List (List ℕ) → List ℕ → SourceFault → Type 0
HasScriptFault taken text (faults.Graph fault) = ⊥
HasScriptFault taken text (faults.Script line what) = script_of taken text ≡ Err (scripts.Fault line what)
HasScriptFault taken text (faults.Schedule line what) = ⊥

-- of the scripts and the schedule, the one at the place has this fault, and those before it have none
abbrev pub IsFaultBehind : ℕ → List (List ℕ) → List (List ℕ) → Option (List ℕ) → ℕ → SourceFault → Type 0
IsFaultBehind jobs taken [] schedule zero fault = HasScheduleFault jobs schedule fault
IsFaultBehind jobs taken [] schedule (suc place) fault = ⊥
IsFaultBehind jobs taken (text ∷ texts) schedule zero fault = HasScriptFault taken text fault
IsFaultBehind jobs taken (text ∷ texts) schedule (suc place) fault =
    (script : List Command) × (script_of taken text ≡ Ok script)
    × IsFaultBehind jobs (taken ++ files_of script) texts schedule place fault

-- the source at this place has this fault, and those before it have none
abbrev pub IsNotAccepted : RunRequest → Texts → ℕ → SourceFault → Type 0
IsNotAccepted request texts zero fault = HasGraphFault (vertices_of MAX_LOAD_ROWS texts.vertices) fault
IsNotAccepted request texts (suc zero) fault =
    (ids : List ℕ) × (vertices_of MAX_LOAD_ROWS texts.vertices ≡ Ok ids)
    × HasGraphFault (edges_of (rules_of request ids) texts.edges) fault
IsNotAccepted request texts (suc (suc place)) fault =
    (ids : List ℕ) × (edges : List Edge) × (vertices_of MAX_LOAD_ROWS texts.vertices ≡ Ok ids)
    × (edges_of (rules_of request ids) texts.edges ≡ Ok edges)
    × IsFaultBehind (length request.scripts) (taken_names request) texts.scripts texts.schedule place fault

-- the inputs of the run
abbrev pub inputs_of : Kind → Meaning → Inputs
inputs_of kind m = record { kind = kind; load = load_of m.ids m.edges; scripts = m.scripts }

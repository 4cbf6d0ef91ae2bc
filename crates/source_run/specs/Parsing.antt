-- What the sources stand for, as the code has it.
use Rattle.std.specs.Prelude.{◌≡◌, ℕ, ◌+◌, List, [], ◌∷◌, ◌++◌, length, Option, Result}
use Rattle.run_model.specs.declared.command.Command.{Command}
use Rattle.graph_files.specs.declared.refusal.Fault.{Fault}
use Rattle.script_lang.specs.declared.refusal.ScriptRefusal.{ScriptRefusal}
use Rattle.script_lang.specs.declared.refusal.ScriptRefusal.TheVariants as scripts
use Rattle.script_lang.specs.declared.refusal.ScheduleRefusal.{ScheduleRefusal}
use Rattle.script_lang.specs.declared.refusal.ScheduleRefusal.TheVariants as schedules
use Rattle.script_lang.specs.Scripts.{files_of}
use Rattle.script_lang.specs.Runnable.{IsRunnable}
use Rattle.command_words.specs.Words.{RunRequest}
use Rattle.source_run.specs.Requests.{source_names}
use Rattle.source_run.specs.declared.input.Input.{Input}
use Rattle.source_run.specs.declared.fault.SourceFault.TheVariants as faults
use Rattle.source_run.specs.declared.fault.ParseStop.{ParseStop}
use Rattle.source_run.specs.declared.fault.ParseStop.TheVariants as stops
use Rattle.source_run.specs.Input.{Meaning, Texts, texts_of, IsSchedule, IsAccepted, HasGraphFault, HasScheduleFault, IsFaultBehind, IsNotAccepted}

-- the parsed sources
abbrev pub meaning_of : Input → Meaning
meaning_of input =
    record { ids = input.ids; edges = input.edges; scripts = input.scripts; schedule = input.schedule }

-- what was read, one text for each source
abbrev pub AreTexts : RunRequest → List (List ℕ) → Type 0
AreTexts request sources = length sources ≡ length (source_names request)

-- what was read is accepted, and is this input
abbrev pub IsInputOf : RunRequest → List (List ℕ) → Input → Type 0
IsInputOf request sources input = IsAccepted request (texts_of request sources) (meaning_of input)

-- these are the entries of the schedule that was read
abbrev pub AreEntriesOf : RunRequest → List (List ℕ) → List ℕ → Type 0
AreEntriesOf request sources entries = IsSchedule (length request.scripts) (texts_of request sources).schedule entries

-- each script can be run where these names and the files of those before it are taken
abbrev pub AreRunnable : List (List ℕ) → List (List Command) → Type 0
AreRunnable taken [] = Unit {0}
AreRunnable taken (script ∷ scripts) = IsRunnable taken script × AreRunnable (taken ++ files_of script) scripts

-- ---- why nothing was parsed

-- the fault is that of the graph file at this place, which stands for this
abbrev pub IsGraphStop : {X : Type 0} → ℕ → Result X Fault → ParseStop → Type 0
IsGraphStop at meaning (stops.NotAccepted place fault) = (place ≡ at) × HasGraphFault meaning fault
IsGraphStop at meaning stops.NoMemory = Unit {0}

-- the fault is that of a script, whatever schedule comes behind
abbrev pub IsScriptStop : List (List ℕ) → List (List ℕ) → ParseStop → Type 0
IsScriptStop taken texts (stops.NotAccepted place fault) = (k : ℕ) × (place ≡ k + 2)
    × ((jobs : ℕ) (schedule : Option (List ℕ)) → IsFaultBehind jobs taken texts schedule k fault)
IsScriptStop taken texts stops.NoMemory = Unit {0}

-- the fault is that of the schedule, behind so many scripts
abbrev pub IsScheduleStop : ℕ → Option (List ℕ) → ParseStop → Type 0
IsScheduleStop jobs schedule (stops.NotAccepted place fault) = (place ≡ jobs + 2) × HasScheduleFault jobs schedule fault
IsScheduleStop jobs schedule stops.NoMemory = Unit {0}

-- the fault is that of the schedule that was read
abbrev pub IsScheduleStopOf : RunRequest → List (List ℕ) → ParseStop → Type 0
IsScheduleStopOf request sources stop = IsScheduleStop (length request.scripts) (texts_of request sources).schedule stop

abbrev pub IsParseStop : RunRequest → Texts → ParseStop → Type 0
IsParseStop request texts (stops.NotAccepted place fault) = IsNotAccepted request texts place fault
IsParseStop request texts stops.NoMemory = Unit {0}

-- the stop at the source at this place, a script or the schedule
abbrev pub stop_of_script : ℕ → ScriptRefusal → ParseStop
stop_of_script place (scripts.Fault line what) = stops.NotAccepted place (faults.Script line what)
stop_of_script place scripts.NoMemory = stops.NoMemory

abbrev pub stop_of_schedule : ℕ → ScheduleRefusal → ParseStop
stop_of_schedule place (schedules.Fault line what) = stops.NotAccepted place (faults.Schedule line what)
stop_of_schedule place schedules.NoMemory = stops.NoMemory

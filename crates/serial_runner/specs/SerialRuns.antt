-- Jobs that run by serialisable turns: what holds of them, of their engine and of what is checked of them.
use Rattle.std.specs.Prelude.{◌≡◌, ℕ, suc, ◌+◌, ◌-◌, ◌^◌, ◌<◌, ◌&&◌, ◌||◌, min, Bool, true, false, cond, nat_lt, List, [], ◌∷◌, ◌++◌, length, map, slice_get, slice_set, Option, Some, None}
use Rattle.graph_model.specs.declared.write.Kind.{Kind}
use Rattle.graph_model.specs.declared.row.Key.{Key}
use Rattle.graph_model.specs.declared.journal.Commit.{Commit}
use Rattle.graph_model.specs.declared.refusal.Cause.TheVariants.{Later}
use Rattle.graph_model.specs.OwnerCalls.{PassState, Core, pass_at}
use Rattle.run_model.specs.declared.command.Command.{Command}
use Rattle.run_model.specs.declared.command.Command.TheVariants.{Abort}
use Rattle.run_model.specs.declared.answer.Answer.{Answer}
use Rattle.run_model.specs.declared.answer.Answer.TheVariants.{Conflict}
use Rattle.run_model.specs.declared.command.Command.TheVariants as commands
use Rattle.run_model.specs.AnsweredLines.{AnsweredLine, effect, of_txn}
use Rattle.run_model.specs.Inputs.{Inputs}
use Rattle.run_model.specs.Jobs.{JobState, RunState, first_state}
use Rattle.run_model.specs.Stepped.{turn_at, service_turns, setting_of}
use Rattle.serial_model.specs.Footprints.{depends, footprint, newest_in}
use Rattle.serial_model.specs.SerialTurns.{IsSeriallyReached, IsSeriallyStepped}
use Rattle.serial_model.specs.SerialRun.{is_commit, is_refused, run_read}
use Rattle.teseo_core.specs.Writing.{writing_since}
use Rattle.job_runner.specs.Progress.{Progress, left_of, is_over, state_of}
use Rattle.job_runner.specs.Runs.{AreUnderWay, under_way, HaveDone, outputs_of}
use Rattle.serial_check.specs.declared.range.FootprintRange.{FootprintRange}
use Rattle.serial_runner.specs.declared.run.RefusedCommit.{RefusedCommit}
use Rattle.serial_runner.specs.declared.run.Check.{Check}
use Rattle.serial_check.specs.Ranges.{covers, IsRowKey}

-- ---- what is kept of a script

-- the refused commits among lines, with their places, the first of which is this one
abbrev pub refused_from : ℕ → List AnsweredLine → List RefusedCommit
refused_from place [] = []
refused_from place (l ∷ ls) =
    cond (is_refused l.command l.answer)
    (record { line = place; stamp = (effect l.answer).stamp } ∷ refused_from (place + 1) ls)
    (refused_from (place + 1) ls)

-- the footprint of the line at hand
abbrev pub depends_at_hand : Kind → List Command → Key → Bool
depends_at_hand kind [] q = false
depends_at_hand kind (c ∷ cs) q = depends kind c q

-- the ranges cover the footprint of the transaction's lines, and of the line at hand where it has taken a turn
abbrev pub IsFootprintOf : Kind → JobState → List FootprintRange → Type 0
IsFootprintOf kind j ranges = (q : Key) → IsRowKey q
    → covers ranges q
    ≡ (footprint kind (of_txn j.begun j.lines) q || (nat_lt 0 j.taken && depends_at_hand kind j.left q))

-- ---- before a turn

-- the commit for which a line is refused, by these ranges of keys
abbrev pub refusal_since : Kind → List Commit → Option ℕ → List FootprintRange → Option ℕ
refusal_since kind journal None ranges = None
refusal_since kind journal (Some start) ranges = newest_in kind journal start (covers ranges)

abbrev pub refusal_by : Core → PassState → List FootprintRange → Command → Option ℕ
refusal_by core pass ranges r =
    cond (is_commit r) (refusal_since core.kind core.journal (writing_since pass) ranges) None

-- a line that begins a transaction
abbrev pub is_begin : Command → Bool
is_begin commands.Begin = true
is_begin commands.Commit = false
is_begin commands.Abort = false
is_begin (commands.Write w) = false
is_begin (commands.Read query) = false
is_begin (commands.Run kernel file) = false

-- the ranges behind the line: a transaction begins with none
pub record Extends (kind : Kind) (r : Command) (old new : List FootprintRange) : Type 0 where
  pub begins : is_begin r ≡ true → new ≡ []
  pub others : is_begin r ≡ false
      → (q : Key) → IsRowKey q → covers new q ≡ (covers old q || depends kind r q)

-- the job has its line at hand abort in place of what it was to do
abbrev pub aborting : Progress → Progress
aborting job = record job { commands = slice_set job.commands (length job.answers) Abort }

-- what is done before a line takes a turn: where the line is refused it will abort, and that is noted
abbrev pub PreparesLine : Kind → Command → Option ℕ → Progress → Check → Progress → Check → Type 0
PreparesLine kind r None job old next new =
    (next ≡ job) × (new.refused ≡ old.refused) × Extends kind r old.footprint.items new.footprint.items
PreparesLine kind r (Some stamp) job old next new = (next ≡ aborting job)
    × (new.refused ≡ old.refused ++ record { line = length job.answers; stamp = stamp } ∷ [])
    × (new.footprint.items ≡ old.footprint.items)

-- the job at place k is prepared for its turn, if it takes one
pub record Prepares (core : Core) (jobs : List Progress) (k : ℕ) (old : Check) (next : List Progress) (new : Check)
    : Type 0 where
  pub over : (job : Progress) → slice_get jobs k ≡ Some job → is_over job ≡ true → (next ≡ jobs) × (new ≡ old)
  pub line : (job : Progress) (c : Command) (rest : List Command) → slice_get jobs k ≡ Some job → is_over job ≡ false
      → left_of job ≡ c ∷ rest
      → (prepared : Progress) × (next ≡ slice_set jobs k prepared)
      × PreparesLine core.kind c
      (refusal_by core (pass_at core (suc k)) old.footprint.items c) job old prepared new

-- nothing was checked of any script
abbrev pub AreFresh : List Check → Type 0
AreFresh checks = (k : ℕ) (c : Check) → slice_get checks k ≡ Some c → (c.footprint.items ≡ []) × (c.refused ≡ [])

-- ---- from turn to turn

-- so many turns have been taken, and engine, jobs and what is checked of them are those of this state: with each refused
-- commit read as an `abort` it is the one that the jobs have
pub record IsUnderCheck (inputs : Inputs) (schedule : List ℕ) (first : Core) (turns : ℕ) (core : Core)
    (jobs : List Progress) (checks : List Check) : Type 0 where
  pub state : RunState
  pub reached : IsSeriallyReached (setting_of inputs first.leaves schedule) (first_state inputs) turns state
  pub read : Inputs
  pub under : AreUnderWay read core jobs
  pub kind : read.kind ≡ inputs.kind
  pub load : read.load ≡ inputs.load
  pub count : length jobs ≡ length inputs.scripts
  pub same : run_read state ≡ state_of core jobs
  pub refused : map (λ check. check.refused) checks ≡ map (λ j. refused_from 0 j.lines) state.jobs
  pub feet : (k : ℕ) (j : JobState) (check : Check) → slice_get state.jobs k ≡ Some j → slice_get checks k ≡ Some check
      → IsFootprintOf inputs.kind j check.footprint.items
  pub leaves : core.leaves ≡ first.leaves
  pub served : first.served < 2 ^ 64
      → core.served ≡ min (first.served + service_turns (length inputs.scripts) schedule turns) (2 ^ 64 - 1)
  pub journal : (rest : List Commit) × (core.journal ≡ first.journal ++ rest)

-- a turn of this job, or of the service, was taken or passed over. It left so many jobs fewer under way
pub record TakesCheckedTurn (old : Core) (jobs : List Progress) (checks : List Check) (number : ℕ) (ended : Bool)
    (new : Core) (next : List Progress) (after : List Check) : Type 0 where
  pub keeps : (inputs : Inputs) (schedule : List ℕ) (first : Core) (turns : ℕ)
      → IsUnderCheck inputs schedule first turns old jobs checks
      → turn_at (length inputs.scripts) schedule turns ≡ number → 0 < under_way jobs
      → IsUnderCheck inputs schedule first (suc turns) new next after
  pub left : under_way next + cond ended 1 0 ≡ under_way jobs
  pub count : length after ≡ length checks

-- ---- answers of refused commits

-- each refused commit of a script has its answer
abbrev pub answered_anew : List RefusedCommit → List Answer → List Answer
answered_anew [] answers = answers
answered_anew (r ∷ refused) answers = answered_anew refused (slice_set answers r.line (Conflict (Later r.stamp)))

abbrev pub job_anew : List RefusedCommit → Progress → Progress
job_anew refused job = record job { answers = answered_anew refused job.answers }

abbrev pub jobs_anew : List Check → List Progress → List Progress
jobs_anew [] jobs = jobs
jobs_anew (check ∷ checks) [] = []
jobs_anew (check ∷ checks) (job ∷ jobs) = job_anew check.refused job ∷ jobs_anew checks jobs

-- ---- the end

-- the run is over, and it was one by serialisable turns; no transaction is open, and the service's turns were counted,
-- up to the last number
pub record SerialEnds (inputs : Inputs) (schedule : List ℕ) (old new : Core) (jobs : List Progress) : Type 0 where
  pub run : IsSeriallyStepped inputs old.leaves schedule (outputs_of new jobs)
  pub kind : new.kind ≡ inputs.kind
  pub closed : (p : ℕ) → (pass_at new p).start ≡ None
  pub passes : HaveDone inputs.scripts (map (λ job. job.answers) jobs) new
  pub served : old.served < 2 ^ 64
      → new.served ≡ min (old.served + service_turns (length inputs.scripts) schedule run.turns) (2 ^ 64 - 1)

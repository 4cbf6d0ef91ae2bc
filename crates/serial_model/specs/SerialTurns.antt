-- The run by turns that refuses a commit where a later one wrote what its transaction depends on.
use Rattle.std.specs.Prelude.{◌≡◌, ℕ, zero, suc, Bool, true, false, cond, List, [], ◌∷◌, length, map, slice_get, Option, Some, None}
use Rattle.graph_model.specs.declared.write.Kind.{Kind}
use Rattle.graph_model.specs.declared.write.Write.{Write}
use Rattle.graph_model.specs.declared.journal.Commit.{Commit}
use Rattle.graph_model.specs.declared.refusal.Cause.TheVariants.{Later}
use Rattle.run_model.specs.declared.command.Command.{Command}
use Rattle.run_model.specs.declared.answer.Answer.TheVariants as answers
use Rattle.run_model.specs.declared.command.Command.TheVariants as commands
use Rattle.run_model.specs.AnsweredLines.{AnsweredLine, of_txn}
use Rattle.run_model.specs.Inputs.{Inputs, File, Outputs}
use Rattle.run_model.specs.Run.{MayFill, HasFiles}
use Rattle.run_model.specs.Jobs.{JobState, RunState, first_state, lines_so_far, start_of_job, ends, answered_job, with_job, turn, has_ended}
use Rattle.run_model.specs.Stepped.{turn_at, Setting, setting_of, context_in}
use Rattle.serial_model.specs.Footprints.{footprint, newest_in}

-- the newest commit above the start of the open transaction that wrote what its lines depend on. A transaction that
-- wrote nothing is refused by none
abbrev pub newest_against : Kind → List Commit → JobState → List Write → Option ℕ
newest_against kind journal j [] = None
newest_against kind journal j (w ∷ ws) =
    newest_in kind journal (start_of_job j) (footprint kind (of_txn j.begun j.lines))

-- the commit for which a line that isn't skipped is refused, if it is a `commit` that is
abbrev pub live_refusal : Kind → List Commit → JobState → Command → Option ℕ
live_refusal kind journal j commands.Begin = None
live_refusal kind journal j commands.Commit = newest_against kind journal j j.own
live_refusal kind journal j commands.Abort = None
live_refusal kind journal j (commands.Write w) = None
live_refusal kind journal j (commands.Read query) = None
live_refusal kind journal j (commands.Run kernel file) = None

-- the commit for which the line is refused
abbrev pub refusal_of_line : Kind → List Commit → JobState → Command → Option ℕ
refusal_of_line kind journal j r = cond j.skipping None (live_refusal kind journal j r)

-- the transaction is over, and nothing of it is kept
abbrev pub refused_job : JobState → Command → List Command → ℕ → JobState
refused_job j c rest stamp = answered_job j c rest (ends (answers.Conflict (Later stamp)) [])

abbrev pub refused_or : RunState → ℕ → JobState → Command → List Command → Option ℕ → RunState → RunState
refused_or s k j c rest None other = other
refused_or s k j c rest (Some stamp) other = with_job s k (refused_job j c rest stamp)

abbrev pub serial_line : Kind → RunState → ℕ → JobState → List Command → RunState → RunState
serial_line kind s k j [] other = other
serial_line kind s k j (c ∷ rest) other =
    refused_or s k j c rest (refusal_of_line kind s.journal j c) other

abbrev pub serial_at : Kind → RunState → ℕ → Option JobState → RunState → RunState
serial_at kind s k None other = other
serial_at kind s k (Some j) other = serial_line kind s k j j.left other

-- a turn of script number `job`, with one change at `commit`: where the line is refused it is answered the conflict,
-- and the transaction is over
abbrev pub serial_turn : Kind → RunState → ℕ → Bool → RunState
serial_turn kind s zero full = turn kind s zero full
serial_turn kind s (suc k) full = serial_at kind s k (slice_get s.jobs k) (turn kind s (suc k) full)

-- a state to which so many such turns lead, none of them behind the end
abbrev pub IsSeriallyReached : Setting → RunState → ℕ → RunState → Type 0
IsSeriallyReached setting first zero s = s ≡ first
IsSeriallyReached setting first (suc n) s =
    (before : RunState) × (full : Bool) × IsSeriallyReached setting first n before × (has_ended before ≡ false)
    × (full ≡ true → MayFill setting.kind setting.leaves setting.load (lines_so_far before))
    × (s ≡ serial_turn setting.kind before (turn_at setting.scripts setting.schedule n) full)

-- the outputs are those of a run by these turns
pub record IsSeriallyStepped (inputs : Inputs) (leaves : ℕ) (schedule : List ℕ) (outputs : Outputs) : Type 0 where
  pub turns : ℕ
  pub last : RunState
  pub reached : IsSeriallyReached (setting_of inputs leaves schedule) (first_state inputs) turns last
  -- the run is over as soon as all scripts have ended
  pub over : has_ended last ≡ true
  pub journal : outputs.journal ≡ last.journal
  pub reports : outputs.reports ≡ map (λ j. map (λ l. l.answer) j.lines) last.jobs
  pub filed : length outputs.files ≡ length inputs.scripts
  pub files : (k : ℕ) (ls : List AnsweredLine) (files : List File)
      → slice_get (lines_so_far last) k ≡ Some ls → slice_get outputs.files k ≡ Some files
      → HasFiles (context_in inputs.kind inputs.load last k) [] ls files

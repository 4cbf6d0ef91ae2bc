-- The run on one thread: whose turn it is, when the run ends, and what it gives.
use Rattle.std.specs.Prelude.{◌≡◌, ℕ, zero, suc, ◌+◌, ◌==◌, Bool, true, false, cond, List, [], ◌∷◌, length, map, slice_get, Some}
use Rattle.graph_model.specs.declared.write.Kind.{Kind}
use Rattle.graph_model.specs.declared.write.Write.{Write}
use Rattle.run_model.specs.AnsweredLines.{AnsweredLine}
use Rattle.run_model.specs.Inputs.{Inputs, File, Outputs}
use Rattle.run_model.specs.Run.{Context, MayFill, HasFiles}
use Rattle.run_model.specs.Jobs.{RunState, first_state, lines_so_far, turn, has_ended}

-- ---- the order of turns

-- 1, 2, up to the number of scripts, then 0, then 1 again
abbrev pub rotated : ℕ → ℕ → ℕ
rotated scripts zero = 1
rotated scripts (suc n) = cond (rotated scripts n == scripts) 0 (rotated scripts n + 1)

-- the job of each turn: by the schedule, and behind it by rotation
abbrev pub turn_at : ℕ → List ℕ → ℕ → ℕ
turn_at scripts [] n = rotated scripts n
turn_at scripts (job ∷ schedule) zero = job
turn_at scripts (job ∷ schedule) (suc n) = turn_at scripts schedule n

-- how many of the first n turns are the service's
abbrev pub service_turns : ℕ → List ℕ → ℕ → ℕ
service_turns scripts schedule zero = 0
service_turns scripts schedule (suc n) =
    cond (turn_at scripts schedule n == 0) (service_turns scripts schedule n + 1) (service_turns scripts schedule n)

-- ---- the states of a run

-- what stays the same through a run: the kind of graph, the load, the leaves of the store, how many scripts
-- there are, and the schedule
pub record Setting : Type 0 where
  pub kind : Kind
  pub load : List Write
  pub leaves : ℕ
  pub scripts : ℕ
  pub schedule : List ℕ

abbrev pub setting_of : Inputs → ℕ → List ℕ → Setting
setting_of inputs leaves schedule = record {
  kind = inputs.kind;
  load = inputs.load;
  leaves = leaves;
  scripts = length inputs.scripts;
  schedule = schedule;
}

-- A state to which so many turns lead, none of them behind the end. Only where the rows that may have been
-- inserted fill the leaves does a turn find no place.
abbrev pub IsReached : Setting → RunState → ℕ → RunState → Type 0
IsReached setting first zero s = s ≡ first
IsReached setting first (suc n) s =
    (before : RunState) × (full : Bool) × IsReached setting first n before × (has_ended before ≡ false)
    × (full ≡ true → MayFill setting.kind setting.leaves setting.load (lines_so_far before))
    × (s ≡ turn setting.kind before (turn_at setting.scripts setting.schedule n) full)

-- by what the lines of the script at this place are judged
abbrev pub context_in : Kind → List Write → RunState → ℕ → Context
context_in kind load s k = record {
  kind = kind;
  load = load;
  journal = s.journal;
  scripts = lines_so_far s;
  job = k + 1;
}

-- the outputs are those of a run by these turns
pub record IsStepped (inputs : Inputs) (leaves : ℕ) (schedule : List ℕ) (outputs : Outputs) : Type 0 where
  pub turns : ℕ
  pub last : RunState
  pub reached : IsReached (setting_of inputs leaves schedule) (first_state inputs) turns last
  -- the run is over as soon as all scripts have ended
  pub over : has_ended last ≡ true
  pub journal : outputs.journal ≡ last.journal
  pub reports : outputs.reports ≡ map (λ j. map (λ l. l.answer) j.lines) last.jobs
  pub filed : length outputs.files ≡ length inputs.scripts
  pub files : (k : ℕ) (ls : List AnsweredLine) (files : List File)
      → slice_get (lines_so_far last) k ≡ Some ls → slice_get outputs.files k ≡ Some files
      → HasFiles (context_in inputs.kind inputs.load last k) [] ls files

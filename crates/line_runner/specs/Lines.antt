-- What a job's line does to the core of its engine.
use Rattle.std.specs.Prelude.{◌≡◌, ℕ, ◌*◌, ◌<◌, ◌≤◌, Bool, true, false, cond, List, [], ◌++◌, length, Option, None}
use Rattle.graph_model.specs.declared.limits.TheConstants.{SPLIT_ROWS}
use Rattle.graph_model.specs.Account.{Sighting}
use Rattle.graph_model.specs.Graph.{Graph}
use Rattle.graph_model.specs.OwnerCalls.{PassState, Core, current, with_current, account_here, open_txns, inserted_here, ended_pass}
use Rattle.run_model.specs.AnsweredLines.{effect}
use Rattle.run_model.specs.declared.command.Command.{Command}
use Rattle.run_model.specs.Commands.{next_txn}
use Rattle.run_model.specs.Run.{filing_of}
use Rattle.run_model.specs.Jobs.{JobState, LineResult, line_result}
use Rattle.side_runs.specs.ByAccount.{made_behind}
use Rattle.line_runner.specs.declared.answering.LineAnswer.{LineAnswer}
use Rattle.line_runner.specs.declared.answering.LineTurn.{LineTurn}
use Rattle.line_runner.specs.declared.answering.LineTurn.TheVariants.{Scanning, Answering}
use Rattle.line_runner.specs.declared.phase.Phase.{Phase}
use Rattle.line_runner.specs.declared.phase.Phase.TheVariants.{Between, Open, Skipping, GivenUp}
use Rattle.line_runner.specs.declared.reading.LineReading.{LineReading}
use Rattle.line_runner.specs.Scanning.{taken_of}
use Rattle.line_runner.specs.Phases.{is_skipping, phase_behind, IsFileOn}
use Rattle.line_runner.specs.Turns.{view_now, goes_on_at, MayTakeNow, ReadsFurther}

-- ---- what a line does

-- what the open transaction of the selected pass sees
abbrev pub view_here : Core → Graph
view_here core = view_now (account_here core)

-- the selected pass's transaction, as a script has it whose lines don't matter
abbrev pub seat : Core → Bool → JobState
seat core skipping = record {
  lines = [];
  left = [];
  taken = 0;
  begun = (current core).begun;
  start = (current core).start;
  own = (current core).own;
  skipping = skipping;
}

-- what the line does, as the definition of a run by turns has it
abbrev pub result_here : Core → Bool → Bool → Command → LineResult
result_here core skipping full r =
    line_result core.kind core.journal (open_txns core) core.selected (seat core skipping) full r

-- the pass behind a line that has this result. What it has met and whether it was full isn't told
abbrev pub pass_behind : PassState → Command → LineResult → List Sighting → Bool → PassState
pass_behind old r result sighted filled = record {
  made = made_behind old.made r result.answer;
  sighted = sighted;
  start = result.start;
  own = result.own;
  filled = filled;
  begun = next_txn old.begun r;
  allowed = old.allowed;
}

-- the core behind the line
abbrev pub core_behind : Core → Command → LineResult → List Sighting → Bool → Core
core_behind old r result sighted filled =
    record (with_current old (pass_behind (current old) r result sighted filled)) {
      journal = old.journal ++ result.commits;
    }

-- a line was answered: answer, phase and core are those of the definition. Only where the rows that were
-- inserted fill the leaves does it find no place. A line answered `table` has its table, and no other has one
pub record DoesLine (old : Core) (skipping : Bool) (r : Command) (given : LineAnswer) (new : Core) : Type 0 where
  pub full : Bool
  pub filling : full ≡ true → SPLIT_ROWS * old.leaves ≤ inserted_here old
  pub answer : given.answer ≡ (result_here old skipping full r).answer
  pub phase : given.phase ≡ phase_behind (result_here old skipping full r)
  pub table : IsFileOn old.kind (view_here old) (cond (effect given.answer).files (filing_of r) None) given.table
  pub sighted : List Sighting
  pub filled : Bool
  pub core : new ≡ core_behind old r (result_here old skipping full r) sighted filled

-- ---- turns of a line

-- so many turns were taken, and this one isn't the last
abbrev pub goes_on_here : Core → Bool → ℕ → Command → Bool
goes_on_here core skipping taken r = goes_on_at (view_here core) skipping taken r

-- the line at hand of a job may be taken, on the pass that is selected
pub record MayTake (core : Core) (phase : Phase) (reading : Option LineReading) (r : Command) : Type 0 where
  pub selected : core.selected < length core.passes
  pub now : MayTakeNow (account_here core) phase reading r

-- a turn that isn't the last changes nothing but how far the line has come
pub record ScansHere (old : Core) (phase : Phase) (before : Option LineReading) (r : Command) (next : LineReading) (new : Core)
    : Type 0 where
  pub further : ReadsFurther (view_here old) phase before r next
  pub same : new ≡ old

-- the last turn of a line answers it
pub record AnswersHere (old : Core) (phase : Phase) (reading : Option LineReading) (r : Command) (given : LineAnswer)
    (new : Core) : Type 0 where
  pub last : goes_on_here old (is_skipping phase) (taken_of reading) r ≡ false
  pub does : DoesLine old (is_skipping phase) r given new

-- one turn of a line
abbrev pub TakesHere : Core → Phase → Option LineReading → Command → LineTurn → Core → Type 0
TakesHere old phase reading r (Scanning next) new = ScansHere old phase reading r next new
TakesHere old phase reading r (Answering given) new = AnswersHere old phase reading r given new

-- ---- want of memory

-- the transaction, if one is open, is taken back
abbrev pub given_up : Core → Phase → Core
given_up core Between = core
given_up core Open = with_current core (ended_pass core)
given_up core Skipping = core
given_up core GivenUp = core

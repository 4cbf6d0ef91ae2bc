-- What holds of the scripts of a run before and behind each of its turns.
use Rattle.std.specs.Prelude.{◌≡◌, ℕ, ◌+◌, ◌<◌, ◌≤◌, ◌⊎◌, Bool, true, false, ◌||◌, List, [], ◌∷◌, ◌++◌, length, map, slice_get, Option, Some, None, is_some}
use Rattle.graph_model.specs.declared.limits.TheConstants.{MAX_BEGINS}
use Rattle.graph_model.specs.declared.journal.TxnName.{TxnName}
use Rattle.graph_model.specs.declared.journal.Commit.{Commit}
use Rattle.graph_model.specs.Transactions.{Running, AreTransactions}
use Rattle.graph_model.specs.Passes.{of_latest, state_in}
use Rattle.run_model.specs.declared.command.Command.{Command}
use Rattle.run_model.specs.declared.answer.Answer.TheVariants as answers
use Rattle.run_model.specs.declared.command.Command.TheVariants as commands
use Rattle.run_model.specs.Commands.{next_txn, open_behind, IsCommand, IsScript}
use Rattle.run_model.specs.AnsweredLines.{AnsweredLine, own_writes, is_stopped, start_of, newest_shown}
use Rattle.run_model.specs.Inputs.{Inputs}
use Rattle.run_model.specs.Run.{Context, AllAnswered, IsShown, IsLoad, load_stamp, load_commit, MayFill}
use Rattle.run_model.specs.Jobs.{JobState, RunState, new_job, running_of, lines_so_far}
use Rattle.run_model.specs.Stepped.{context_in}

-- ---- one script

-- each line has the number of its transaction: the first line comes behind transaction `before`, and the last
-- is of transaction `latest`
abbrev pub AreNumbered : ℕ → List AnsweredLine → ℕ → Type 0
AreNumbered before [] latest = before ≡ latest
AreNumbered before (l ∷ ls) latest =
    (l.txn ≡ next_txn before l.command) × AreNumbered (next_txn before l.command) ls latest

-- the open transaction is the one that the lines tell of: its start, its writes, and that nothing stopped it
pub record IsToldByLines (j : JobState) (start : ℕ) : Type 0 where
  pub started : start_of j.begun j.lines ≡ start
  pub own : j.own ≡ own_writes j.begun j.lines
  pub going : is_stopped j.begun j.lines ≡ false

-- the script is within a transaction: one is open, or the other lines of one that was stopped are skipped
abbrev pub is_within : JobState → Bool
is_within j = j.skipping || is_some j.start

-- a script under way is right, in this context
pub record IsJob (context : Context) (j : JobState) : Type 0 where
  -- its lines have their numbers and their answers, and show no stamp that isn't there
  pub numbered : AreNumbered 0 j.lines j.begun
  pub answered : AllAnswered context [] j.lines
  pub shown : newest_shown j.lines ≤ length context.journal
  -- the open transaction is the lines', and where none is open there are no writes
  pub told : (start : ℕ) → j.start ≡ Some start → IsToldByLines j start
  pub idle : j.start ≡ None → j.own ≡ []
  -- lines are skipped behind a stop, where no transaction is open
  pub stopped : j.skipping ≡ true → is_stopped j.begun j.lines ≡ true
  pub closed : j.skipping ≡ true → j.start ≡ None
  -- what is left may follow
  pub script : IsScript (Some (is_within j)) j.left

-- the line at hand may stand where the script is: its numbers are within their limits, it begins a transaction
-- exactly where the script is within none, and it begins no more than a script may
pub record MayStand (j : JobState) (r : Command) : Type 0 where
  pub limits : IsCommand r
  pub stands : (within : Bool) × (open_behind (is_within j) r ≡ Some within)
  pub begins : r ≡ commands.Begin → j.begun < MAX_BEGINS

-- ---- all scripts

-- the open transactions by their names
abbrev pub open_by_name : List JobState → TxnName → Option Running
open_by_name jobs = of_latest (λ j. j.begun) running_of None (state_in (new_job []) 1 jobs)

-- the whole script: the commands of the lines, and those that are left
abbrev pub script_of : JobState → List Command
script_of j = map (λ l. l.command) j.lines ++ j.left

-- the state of a run of these inputs, on a store of so many leaves
pub record IsUnderWay (inputs : Inputs) (leaves : ℕ) (s : RunState) : Type 0 where
  -- the journal is legal, and no two open transactions hold writes that clash
  pub transactions : AreTransactions inputs.kind s.journal (open_by_name s.jobs) 0
  -- the first commit is the load, unless that writes nothing
  pub loaded : (inputs.load ≡ []) ⊎ (slice_get s.journal 0 ≡ Some (load_commit inputs.load))
  pub behind_load : load_stamp inputs.load ≤ length s.journal
  -- the scripts are those of the inputs, and each of them is right
  pub whole : map script_of s.jobs ≡ inputs.scripts
  pub each : (k : ℕ) (j : JobState)
      → slice_get s.jobs k ≡ Some j → IsJob (context_in inputs.kind inputs.load s k) j
  -- the journal holds the load and what was answered a stamp, by transactions that have begun
  pub committed : (i : ℕ) (c : Commit)
      → slice_get s.journal i ≡ Some c → IsLoad inputs.load c ⊎ IsShown (lines_so_far s) c
  pub begun : (i : ℕ) (c : Commit) (k : ℕ) (j : JobState)
      → slice_get s.journal i ≡ Some c → c.by.job ≡ k + 1 → slice_get s.jobs k ≡ Some j → c.by.number ≤ j.begun
  -- `full` stands only where the rows that may have been inserted fill the leaves
  pub full : (k i : ℕ) (ls : List AnsweredLine) (l : AnsweredLine)
      → slice_get (lines_so_far s) k ≡ Some ls → slice_get ls i ≡ Some l → l.answer ≡ answers.Full
      → MayFill inputs.kind leaves inputs.load (lines_so_far s)

-- Worked by hand: write skew. Two guards each see the other on duty, and both go home.
use Rattle.std.specs.Prelude.{◌≡◌, ℕ, List, [], ◌∷◌, Some, None}
use Rattle.graph_model.specs.declared.write.Kind.TheVariants.{Directed, Undirected}
use Rattle.graph_model.specs.declared.write.Write.TheVariants as writes
use Rattle.graph_model.specs.declared.journal.Commit.{Commit}
use Rattle.graph_model.specs.declared.refusal.Cause.TheVariants.{Later}
use Rattle.run_model.specs.declared.command.Command.{Command}
use Rattle.run_model.specs.declared.command.Command.TheVariants as commands
use Rattle.run_model.specs.declared.command.Query.TheVariants.{WeightOf}
use Rattle.run_model.specs.declared.answer.Answer.{Answer}
use Rattle.run_model.specs.declared.answer.Answer.TheVariants as answers
use Rattle.run_model.specs.AnsweredLines.{AnsweredLine, answered_lines}
use Rattle.run_model.specs.Run.{txn_name, load_commit}
use Rattle.run_model.specs.Examples.{load}
use Rattle.serial_model.specs.Footprints.{footprint, newest_in}
use Rattle.serial_model.specs.SerialRun.{IsSerialLine}

-- a script that asks for the weight of one edge, and gives another edge the weight 5
abbrev pub looks_and_sets : ℕ → ℕ → ℕ → ℕ → List Command
looks_and_sets a b u v =
    commands.Begin ∷ commands.Read (WeightOf a b) ∷ commands.Write (writes.SetEdge u v 5) ∷ commands.Commit ∷ []

-- each looks at the edge that the other one sets
abbrev pub skewed : List (List Command)
skewed = looks_and_sets 1 2 2 3 ∷ looks_and_sets 2 3 1 2 ∷ []

-- the lines of such a script, up to its `commit`
abbrev pub lines_of : ℕ → ℕ → ℕ → ℕ → ℕ → List AnsweredLine
lines_of job a b u v = answered_lines
    (commands.Begin ∷ commands.Read (WeightOf a b) ∷ commands.Write (writes.SetEdge u v 5) ∷ [])
    (answers.Begun (txn_name job 1) 1 ∷ answers.Weight 1 ∷ answers.Done ∷ [])

-- the load, and the first script's commit
abbrev pub first_committed : List Commit
first_committed =
    load_commit load
    ∷ record { stamp = 2; start = 1; by = txn_name 1 1; writes = writes.SetEdge 2 3 5 ∷ [] } ∷ []

-- and the second's, as snapshot isolation lets it stand
abbrev pub both_committed : List Commit
both_committed =
    load_commit load
    ∷ record { stamp = 2; start = 1; by = txn_name 1 1; writes = writes.SetEdge 2 3 5 ∷ [] }
    ∷ record { stamp = 3; start = 1; by = txn_name 2 1; writes = writes.SetEdge 1 2 5 ∷ [] } ∷ []

-- the first script's `commit`, answered the stamp 2, and the second's
abbrev pub first_commits : AnsweredLine
first_commits = record { txn = 1; command = commands.Commit; answer = answers.Committed (Some 2) }

abbrev pub second_commits : AnsweredLine
second_commits = record { txn = 1; command = commands.Commit; answer = answers.Committed (Some 3) }

abbrev pub second_refused : Answer → AnsweredLine
second_refused a = record { txn = 1; command = commands.Commit; answer = a }

-- which commits stand against the second script
pub record RefusalExamples : Type 0 where
  -- the first wrote the edge at which the second looked
  pub refused : newest_in Undirected first_committed 1 (footprint Undirected (lines_of 2 2 3 1 2)) ≡ Some 2
  -- a transaction that began behind it meets none
  pub begun_later : newest_in Undirected first_committed 2 (footprint Undirected (lines_of 2 2 3 1 2)) ≡ None
  -- nor does one that looks elsewhere
  pub elsewhere : newest_in Undirected first_committed 1 (footprint Undirected (lines_of 2 1 4 1 2)) ≡ None
  -- an edge without direction is met from either end
  pub other_end : newest_in Undirected first_committed 1 (footprint Undirected (lines_of 2 3 2 1 2)) ≡ Some 2
  pub one_way : newest_in Directed first_committed 1 (footprint Directed (lines_of 2 3 2 1 2)) ≡ None

-- how the second script's `commit` may be answered
pub record SkewExamples : Type 0 where
  -- the first is at its place in the journal, whatever comes behind it
  pub first : IsSerialLine Undirected both_committed (lines_of 1 1 2 2 3) first_commits
  -- the second isn't: behind the first the edge that it looked at has another weight
  pub second : IsSerialLine Undirected both_committed (lines_of 2 2 3 1 2) second_commits → ⊥
  -- so it is refused for the first, and not for the load, nor for no reason
  pub refused : IsSerialLine Undirected first_committed (lines_of 2 2 3 1 2)
      (second_refused (answers.Conflict (Later 2)))
  pub not_for_load : IsSerialLine Undirected first_committed (lines_of 2 2 3 1 2)
      (second_refused (answers.Conflict (Later 1))) → ⊥
  pub not_so : IsSerialLine Undirected first_committed (lines_of 2 1 4 1 2)
      (second_refused (answers.Conflict (Later 2))) → ⊥

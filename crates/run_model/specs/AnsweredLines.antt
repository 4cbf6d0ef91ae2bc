-- Lines of a script with their answers, and what those before a line tell of its transaction.
use Rattle.std.specs.Prelude.{ℕ, Bool, true, false, ◌==◌, cond, List, [], ◌∷◌, Option, Some, None, max}
use Rattle.std.specs.List.{filter, filter_map, list_any}
use Rattle.graph_model.specs.declared.write.Kind.{Kind}
use Rattle.graph_model.specs.declared.write.Write.{Write}
use Rattle.graph_model.specs.declared.journal.Commit.{Commit}
use Rattle.graph_model.specs.declared.refusal.Cause.{Cause}
use Rattle.graph_model.specs.declared.refusal.Cause.TheVariants.{Later, Holder}
use Rattle.graph_model.specs.Graph.{Graph}
use Rattle.graph_model.specs.History.{view}
use Rattle.run_model.specs.declared.command.Command.{Command}
use Rattle.run_model.specs.declared.answer.Answer.{Answer}
use Rattle.run_model.specs.declared.answer.Answer.TheVariants as answers
use Rattle.run_model.specs.Commands.{write_of, next_txn}

-- a command, the number of its transaction in the script, and its answer
pub record AnsweredLine : Type 0 where
  pub txn : ℕ
  pub command : Command
  pub answer : Answer

-- a script and its report, side by side, from the transaction of this number on
abbrev pub answered_from : ℕ → List Command → List Answer → List AnsweredLine
answered_from txn [] report = []
answered_from txn (c ∷ cs) [] = []
answered_from txn (c ∷ cs) (a ∷ rest) =
    record { txn = next_txn txn c; command = c; answer = a }
    ∷ answered_from (next_txn txn c) cs rest

-- a script and its whole report
abbrev pub answered_lines : List Command → List Answer → List AnsweredLine
answered_lines cs report = answered_from 0 cs report

-- ---- what an answer tells

-- what an answer tells beside its words
pub record Effect : Type 0 where
  -- the line's transaction begins at this start
  pub start : Option ℕ
  -- the line's write is made
  pub writes : Bool
  -- the transaction is over, and its other lines are skipped
  pub stops : Bool
  -- the kernel's table is in the line's file
  pub files : Bool
  -- the script has been shown this stamp: a start, a commit's, a later commit's
  pub stamp : ℕ

-- none of these
abbrev pub no_effect : Effect
no_effect = record { start = None; writes = false; stops = false; files = false; stamp = 0 }

-- the later commit that a conflict names
abbrev pub stamp_of_cause : Cause → ℕ
stamp_of_cause (Later stamp) = stamp
stamp_of_cause (Holder by) = 0

-- the stamp of a commit that wrote something
abbrev pub stamp_of_commit : Option ℕ → ℕ
stamp_of_commit (Some stamp) = stamp
stamp_of_commit None = 0

-- each answer, with all that it tells
abbrev pub effect : Answer → Effect
effect (answers.Begun by start) = record no_effect { start = Some start; stamp = start }
effect answers.Done = record no_effect { writes = true }
effect answers.Exists = no_effect
effect answers.SelfLoop = no_effect
effect (answers.NoVertex v) = no_effect
effect answers.NoEdge = no_effect
effect answers.HasEdges = no_effect
effect (answers.Conflict cause) = record no_effect { stops = true; stamp = stamp_of_cause cause }
effect answers.Full = record no_effect { stops = true }
effect (answers.Weight weight) = no_effect
effect answers.Nothing = no_effect
effect (answers.Neighbours targets) = no_effect
effect (answers.Counted vertices edges) = no_effect
effect (answers.Table entries) = record no_effect { files = true }
effect (answers.Committed stamp) = record no_effect { stamp = stamp_of_commit stamp }
effect answers.Aborted = no_effect
effect answers.Skipped = no_effect

-- ---- what the lines before one tell

-- the write that a line made
abbrev pub made_by : AnsweredLine → Option Write
made_by l = cond (effect l.answer).writes (write_of l.command) None

-- the lines of one transaction
abbrev pub of_txn : ℕ → List AnsweredLine → List AnsweredLine
of_txn txn before = filter (λ l. l.txn == txn) before

-- a transaction's writes so far
abbrev pub own_writes : ℕ → List AnsweredLine → List Write
own_writes txn before = filter_map made_by (of_txn txn before)

-- a line of the transaction was answered a conflict or `full`
abbrev pub is_stopped : ℕ → List AnsweredLine → Bool
is_stopped txn before = list_any (λ l. (effect l.answer).stops) (of_txn txn before)

-- the start that is given, or else a later one
abbrev pub or_later : Option ℕ → ℕ → ℕ
or_later (Some start) later = start
or_later None later = later

-- the first start that the lines' answers give
abbrev pub first_start : List AnsweredLine → ℕ
first_start [] = 0
first_start (l ∷ ls) = or_later (effect l.answer).start (first_start ls)

-- the start that the transaction's `begin` was answered
abbrev pub start_of : ℕ → List AnsweredLine → ℕ
start_of txn before = first_start (of_txn txn before)

-- the greatest stamp that the lines show: a script that has seen it never begins before it
abbrev pub newest_shown : List AnsweredLine → ℕ
newest_shown [] = 0
newest_shown (l ∷ ls) = max (effect l.answer).stamp (newest_shown ls)

-- the graph on which a line behind these is answered
abbrev pub snapshot : Kind → List Commit → ℕ → List AnsweredLine → Graph
snapshot kind journal txn before = view kind journal (start_of txn before) (own_writes txn before)

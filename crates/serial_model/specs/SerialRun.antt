-- What a serialisable run is: how its outputs go with its inputs, and that its journal is a serial order.
use Rattle.std.specs.Prelude.{◌≡◌, ◌≢◌, ◌↔◌, ℕ, ◌-◌, ◌≤◌, ◌&&◌, Bool, true, false, cond, List, [], ◌∷◌, ◌++◌, map, take, slice_get, Contains, Some}
use Rattle.graph_model.specs.declared.write.Kind.{Kind}
use Rattle.graph_model.specs.declared.journal.TxnName.{TxnName}
use Rattle.graph_model.specs.declared.journal.Commit.{Commit}
use Rattle.graph_model.specs.declared.refusal.Cause.TheVariants.{Later}
use Rattle.graph_model.specs.declared.table.Entry.{Entry}
use Rattle.graph_model.specs.Graph.{Graph}
use Rattle.graph_model.specs.History.{view}
use Rattle.graph_model.specs.Refused.{refused}
use Rattle.run_model.specs.declared.command.Command.{Command}
use Rattle.run_model.specs.declared.command.Command.TheVariants as commands
use Rattle.run_model.specs.declared.answer.Answer.{Answer}
use Rattle.run_model.specs.declared.answer.Answer.TheVariants as answers
use Rattle.run_model.specs.AnsweredLines.{AnsweredLine, effect, of_txn, own_writes, start_of, newest_shown}
use Rattle.run_model.specs.Answering.{query_answer, kernel_answer, IsKernelTable}
use Rattle.run_model.specs.Inputs.{Inputs, Outputs}
use Rattle.run_model.specs.Jobs.{JobState, RunState}
use Rattle.run_model.specs.Run.{IsRun, ShowsCommit, run_lines}
use Rattle.serial_model.specs.Footprints.{footprint, later_in}

-- ---- refused commits

abbrev pub is_commit : Command → Bool
is_commit commands.Begin = false
is_commit commands.Commit = true
is_commit commands.Abort = false
is_commit (commands.Write w) = false
is_commit (commands.Read query) = false
is_commit (commands.Run kernel file) = false

-- a `commit` that was answered a conflict, which stops its transaction
abbrev pub is_refused : Command → Answer → Bool
is_refused c a = is_commit c && (effect a).stops

-- a refused `commit` is read as an `abort`
abbrev pub command_read : Command → Answer → Command
command_read c a = cond (is_refused c a) commands.Abort c

abbrev pub answer_read : Command → Answer → Answer
answer_read c a = cond (is_refused c a) answers.Aborted a

abbrev pub line_read : AnsweredLine → AnsweredLine
line_read l =
    record { txn = l.txn; command = command_read l.command l.answer; answer = answer_read l.command l.answer }

-- the state of a run whose refused commits are read so
abbrev pub job_read : JobState → JobState
job_read j = record j { lines = map line_read j.lines }

abbrev pub run_read : RunState → RunState
run_read s = record s { jobs = map job_read s.jobs }

-- a script with `abort` in place of each `commit` that this report refuses
abbrev pub script_read : List Command → List Answer → List Command
script_read [] report = []
script_read (c ∷ cs) [] = c ∷ cs
script_read (c ∷ cs) (a ∷ report) = command_read c a ∷ script_read cs report

-- and its report
abbrev pub report_read : List Command → List Answer → List Answer
report_read [] report = report
report_read (c ∷ cs) [] = []
report_read (c ∷ cs) (a ∷ report) = answer_read c a ∷ report_read cs report

abbrev pub scripts_read : List (List Command) → List (List Answer) → List (List Command)
scripts_read [] reports = []
scripts_read (cs ∷ scripts) [] = cs ∷ scripts
scripts_read (cs ∷ scripts) (report ∷ reports) = script_read cs report ∷ scripts_read scripts reports

abbrev pub reports_read : List (List Command) → List (List Answer) → List (List Answer)
reports_read [] reports = reports
reports_read (cs ∷ scripts) [] = []
reports_read (cs ∷ scripts) (report ∷ reports) = report_read cs report ∷ reports_read scripts reports

abbrev pub inputs_read : Inputs → Outputs → Inputs
inputs_read inputs outputs = record inputs { scripts = scripts_read inputs.scripts outputs.reports }

abbrev pub outputs_read : Inputs → Outputs → Outputs
outputs_read inputs outputs = record outputs { reports = reports_read inputs.scripts outputs.reports }

-- a `commit` is refused for a later commit, which wrote a row on which a line of the transaction depends
abbrev pub IsRefusal : Kind → List Commit → List AnsweredLine → ℕ → Answer → Type 0
IsRefusal kind journal before txn (answers.Conflict (Later stamp)) =
    (own_writes txn before ≢ [])
    × Contains (later_in kind journal (start_of txn before) (footprint kind (of_txn txn before))) stamp
IsRefusal kind journal before txn _ = ⊥

-- ---- one transaction after the other

-- a line has one answer on both graphs
abbrev pub HasSameAnswer : Kind → Graph → Graph → Command → Type 0
HasSameAnswer kind g h commands.Begin = Unit {0}
HasSameAnswer kind g h commands.Commit = Unit {0}
HasSameAnswer kind g h commands.Abort = Unit {0}
HasSameAnswer kind g h (commands.Write w) = refused g w ≡ refused h w
HasSameAnswer kind g h (commands.Read query) = query_answer kind g query ≡ query_answer kind h query
HasSameAnswer kind g h (commands.Run kernel file) = (kernel_answer g kernel ≡ kernel_answer h kernel)
    × ((table : List Entry) → IsKernelTable kind g kernel table ↔ IsKernelTable kind h kernel table)

-- the lines of this transaction have the answers that they would have had behind all commits below this stamp
abbrev pub AnswersAsBehind : Kind → List Commit → List AnsweredLine → ℕ → ℕ → Type 0
AnswersAsBehind kind journal before txn stamp = (i : ℕ) (l : AnsweredLine) → slice_get before i ≡ Some l → l.txn ≡ txn
    → HasSameAnswer kind
    (view kind journal (start_of txn before) (own_writes txn (take i before)))
    (view kind journal (stamp - 1) (own_writes txn (take i before)))
    l.command

-- how a line, in a report behind these lines, keeps a run serialisable
pub record IsSerialLine (kind : Kind) (journal : List Commit) (before : List AnsweredLine) (l : AnsweredLine)
    : Type 0 where
  -- a refused `commit` has its cause
  pub refused : is_refused l.command l.answer ≡ true → IsRefusal kind journal before l.txn l.answer
  -- a transaction begins no earlier than what the script was shown before, by refused commits too
  pub begins : (by : TxnName) (start : ℕ) → l.command ≡ commands.Begin → l.answer ≡ answers.Begun by start
      → newest_shown before ≤ start
  -- a transaction that committed reads as if it had run alone, at its place in the journal
  pub serial : (stamp : ℕ) → ShowsCommit l stamp → AnswersAsBehind kind journal before l.txn stamp

-- this holds of each line, behind those before it
abbrev pub EachLine : (List AnsweredLine → AnsweredLine → Type 0) → List AnsweredLine → List AnsweredLine → Type 0
EachLine P before [] = Unit {0}
EachLine P before (l ∷ ls) = P before l × EachLine P (before ++ l ∷ []) ls

-- The outputs are those of a run of the inputs in which some commits were refused, and whose journal is a serial order:
-- each transaction that committed has the answers that it would have had, had it run alone behind those before it
pub record IsSerialRun (inputs : Inputs) (leaves : ℕ) (outputs : Outputs) : Type 0 where
  -- with each refused `commit` read as an `abort` it is a run
  pub run : IsRun (inputs_read inputs outputs) leaves (outputs_read inputs outputs)
  pub serial : (k : ℕ) (ls : List AnsweredLine) → slice_get (run_lines inputs outputs) k ≡ Some ls
      → EachLine (IsSerialLine inputs.kind outputs.journal) [] ls

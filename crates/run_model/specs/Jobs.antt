-- Scripts under way, one beside the other: what a line does, and what a turn does.
use Rattle.std.specs.Prelude.{ℕ, zero, suc, ◌+◌, ◌/◌, ◌&&◌, Bool, true, false, not, cond, nat_lt, List, [], ◌∷◌, ◌++◌, length, map, slice_get, slice_set, Option, Some, None, unwrap_or, option_map}
use Rattle.std.specs.List.{list_all}
use Rattle.graph_model.specs.declared.limits.TheConstants.{SCAN_ROWS}
use Rattle.graph_model.specs.declared.write.Kind.{Kind}
use Rattle.graph_model.specs.declared.write.Write.{Write}
use Rattle.graph_model.specs.declared.journal.TxnName.{TxnName}
use Rattle.graph_model.specs.declared.journal.Commit.{Commit}
use Rattle.graph_model.specs.declared.refusal.Cause.{Cause}
use Rattle.graph_model.specs.declared.refusal.Refusal.{Refusal}
use Rattle.graph_model.specs.Graph.{Graph}
use Rattle.graph_model.specs.Rows.{all_rows}
use Rattle.graph_model.specs.History.{view}
use Rattle.graph_model.specs.Refused.{refused}
use Rattle.graph_model.specs.Conflict.{OpenTxn, conflict}
use Rattle.graph_model.specs.Inserted.{inserts}
use Rattle.graph_model.specs.Transactions.{Running, commit_of}
use Rattle.graph_model.specs.Passes.{open_txns_of}
use Rattle.run_model.specs.declared.command.Command.{Command}
use Rattle.run_model.specs.declared.answer.Answer.{Answer}
use Rattle.run_model.specs.declared.answer.Answer.TheVariants as answers
use Rattle.run_model.specs.declared.command.Command.TheVariants as commands
use Rattle.run_model.specs.declared.command.Query.{Query}
use Rattle.run_model.specs.declared.command.Query.TheVariants.{WeightOf, NeighboursOf, Counts}
use Rattle.run_model.specs.Commands.{next_txn}
use Rattle.run_model.specs.AnsweredLines.{AnsweredLine}
use Rattle.run_model.specs.Answering.{refusal_answer, query_answer, kernel_answer, targets_of}
use Rattle.run_model.specs.Inputs.{Inputs}
use Rattle.run_model.specs.Run.{txn_name, load_commit}

-- a script under way
pub record JobState : Type 0 where
  -- the lines answered so far, and the commands that are left
  pub lines : List AnsweredLine
  pub left : List Command
  -- the turns that the line at hand has taken
  pub taken : ℕ
  -- the number of the latest transaction; while it is open, its start, and its writes so far
  pub begun : ℕ
  pub start : Option ℕ
  pub own : List Write
  -- a conflict or `full` has ended the transaction, and its other lines are skipped
  pub skipping : Bool

-- the journal so far, and the scripts in their order
pub record RunState : Type 0 where
  pub journal : List Commit
  pub jobs : List JobState

-- a script of which no line is answered
abbrev pub new_job : List Command → JobState
new_job cs = record { lines = []; left = cs; taken = 0; begun = 0; start = None; own = []; skipping = false }

-- the journal after the load, which is a commit unless it writes nothing
abbrev pub load_journal : List Write → List Commit
load_journal [] = []
load_journal (w ∷ ws) = load_commit (w ∷ ws) ∷ []

-- after the load and before the first turn
abbrev pub first_state : Inputs → RunState
first_state inputs = record { journal = load_journal inputs.load; jobs = map new_job inputs.scripts }

-- the answered lines of each script
abbrev pub lines_so_far : RunState → List (List AnsweredLine)
lines_so_far s = map (λ j. j.lines) s.jobs

-- the open transaction of a script, if it has one
abbrev pub running_of : JobState → Option Running
running_of j = option_map (λ start. record { start = start; writes = j.own }) j.start

-- the open transactions of all scripts, which are numbered from 1
abbrev pub open_txns : List JobState → List OpenTxn
open_txns jobs = open_txns_of (λ j. j.begun) running_of 1 jobs

-- the start of the open transaction, where one is open
abbrev pub start_of_job : JobState → ℕ
start_of_job j = unwrap_or j.start 0

-- what the open transaction sees
abbrev pub view_of_job : Kind → List Commit → JobState → Graph
view_of_job kind journal j = view kind journal (start_of_job j) j.own

-- ---- what a line does

-- what a line does: its answer, the transaction behind it, and its commit, if it makes one
pub record LineResult : Type 0 where
  pub answer : Answer
  pub start : Option ℕ
  pub own : List Write
  pub skipping : Bool
  pub commits : List Commit

-- the transaction goes on as it is
abbrev pub goes_on : JobState → Answer → LineResult
goes_on j a = record { answer = a; start = j.start; own = j.own; skipping = false; commits = [] }

-- the transaction has one write more
abbrev pub writes_more : JobState → Write → LineResult
writes_more j w =
    record { answer = answers.Done; start = j.start; own = j.own ++ w ∷ []; skipping = false; commits = [] }

-- the transaction is over, and its other lines are skipped
abbrev pub stops : Answer → LineResult
stops a = record { answer = a; start = None; own = []; skipping = true; commits = [] }

-- the transaction has ended, with this commit or with none
abbrev pub ends : Answer → List Commit → LineResult
ends a commits = record { answer = a; start = None; own = []; skipping = false; commits = commits }

-- a transaction begins at the length of the journal
abbrev pub begins : TxnName → ℕ → LineResult
begins by now = record { answer = answers.Begun by now; start = Some now; own = []; skipping = false; commits = [] }

-- whether a line ends its transaction
abbrev pub is_end : Command → Bool
is_end commands.Begin = false
is_end commands.Commit = true
is_end commands.Abort = true
is_end (commands.Write w) = false
is_end (commands.Read query) = false
is_end (commands.Run kernel file) = false

-- a line behind a stop, up to the transaction's end
abbrev pub skips : Command → LineResult
skips r = record { answer = answers.Skipped; start = None; own = []; skipping = not (is_end r); commits = [] }

-- a write is refused by its graph, else by a conflict, else for want of a place, or it is made
abbrev pub write_result : JobState → Write → Option Refusal → Option Cause → Bool → LineResult
write_result j w (Some refusal) cause full = goes_on j (refusal_answer refusal)
write_result j w None (Some cause) full = stops (answers.Conflict cause)
write_result j w None None full = cond (full && inserts w) (stops answers.Full) (writes_more j w)

-- a `commit` appends what the transaction wrote, if it wrote something
abbrev pub commit_result : List Commit → TxnName → ℕ → List Write → LineResult
commit_result journal by start [] = ends (answers.Committed None) []
commit_result journal by start (w ∷ ws) =
    ends (answers.Committed (Some (length journal + 1)))
    (commit_of journal by (record { start = start; writes = w ∷ ws }) ∷ [])

-- a line that isn't skipped, in script number `job`, among these open transactions. The bit says whether a
-- write that nothing refuses finds no place
abbrev pub live_result : Kind → List Commit → List OpenTxn → ℕ → JobState → Bool → Command → LineResult
live_result kind journal txns job j full commands.Begin = begins (txn_name job (j.begun + 1)) (length journal)
live_result kind journal txns job j full commands.Commit =
    commit_result journal (txn_name job j.begun) (start_of_job j) j.own
live_result kind journal txns job j full commands.Abort = ends answers.Aborted []
live_result kind journal txns job j full (commands.Write w) =
    write_result j w (refused (view_of_job kind journal j) w)
    (conflict kind journal txns (txn_name job j.begun) (start_of_job j) w) full
live_result kind journal txns job j full (commands.Read query) =
    goes_on j (query_answer kind (view_of_job kind journal j) query)
live_result kind journal txns job j full (commands.Run kernel file) =
    goes_on j (kernel_answer (view_of_job kind journal j) kernel)

-- a line
abbrev pub line_result : Kind → List Commit → List OpenTxn → ℕ → JobState → Bool → Command → LineResult
line_result kind journal txns job j full r = cond j.skipping (skips r) (live_result kind journal txns job j full r)

-- ---- what a turn does

-- how many rows a read scans
abbrev pub scanned_by : Graph → Query → ℕ
scanned_by g (WeightOf u v) = 0
scanned_by g (NeighboursOf v) = length (targets_of g v)
scanned_by g Counts = length (all_rows g)

-- how many rows a line scans
abbrev pub scanned : Graph → Command → ℕ
scanned g commands.Begin = 0
scanned g commands.Commit = 0
scanned g commands.Abort = 0
scanned g (commands.Write w) = 0
scanned g (commands.Read query) = scanned_by g query
scanned g (commands.Run kernel file) = length (all_rows g)

-- how many turns a line takes: each gives a full portion of rows, and the last one fewer
abbrev pub turns_of : Kind → List Commit → JobState → Command → ℕ
turns_of kind journal j r = cond j.skipping 1 (scanned (view_of_job kind journal j) r / SCAN_ROWS + 1)

-- the script behind a line that was answered
abbrev pub answered_job : JobState → Command → List Command → LineResult → JobState
answered_job j c rest result = record {
  lines = j.lines ++ record { txn = next_txn j.begun c; command = c; answer = result.answer } ∷ [];
  left = rest;
  taken = 0;
  begun = next_txn j.begun c;
  start = result.start;
  own = result.own;
  skipping = result.skipping;
}

-- the run with another state of the script at place k
abbrev pub with_job : RunState → ℕ → JobState → RunState
with_job s k j = record s { jobs = slice_set s.jobs k j }

-- the line at hand of the script at place k is answered
abbrev pub line_turn : Kind → RunState → ℕ → Bool → JobState → Command → List Command → RunState
line_turn kind s k full j c rest =
    let result : LineResult = line_result kind s.journal (open_txns s.jobs) (k + 1) j full c in
    record { journal = s.journal ++ result.commits; jobs = slice_set s.jobs k (answered_job j c rest result) }

-- one turn of the line at hand, which is answered with its last
abbrev pub job_turn : Kind → RunState → ℕ → Bool → JobState → List Command → RunState
job_turn kind s k full j [] = s
job_turn kind s k full j (c ∷ rest) =
    cond (nat_lt (j.taken + 1) (turns_of kind s.journal j c))
    (with_job s k (record j { taken = j.taken + 1 }))
    (line_turn kind s k full j c rest)

abbrev pub turn_at_place : Kind → RunState → ℕ → Bool → Option JobState → RunState
turn_at_place kind s k full None = s
turn_at_place kind s k full (Some j) = job_turn kind s k full j j.left

-- a turn of script number `job`. One of the service, number 0, changes nothing, nor does one of a script that
-- has ended
abbrev pub turn : Kind → RunState → ℕ → Bool → RunState
turn kind s zero full = s
turn kind s (suc k) full = turn_at_place kind s k full (slice_get s.jobs k)

abbrev pub is_empty : List Command → Bool
is_empty [] = true
is_empty (c ∷ cs) = false

-- all scripts have ended
abbrev pub has_ended : RunState → Bool
has_ended s = list_all (λ j. is_empty j.left) s.jobs

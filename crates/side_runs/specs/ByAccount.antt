-- Lines of a script by the account of its pass: what each line does to it, and what all of them leave.
use Rattle.std.specs.Prelude.{◌≡◌, ℕ, ◌≤◌, Bool, false, not, cond, List, [], ◌∷◌, ◌++◌, length, Option, Some, None, Result, Ok, Err}
use Rattle.graph_model.specs.declared.write.Kind.{Kind}
use Rattle.graph_model.specs.declared.write.Write.{Write}
use Rattle.graph_model.specs.declared.journal.Begun.{Begun}
use Rattle.graph_model.specs.declared.refusal.Refusal.{Refusal}
use Rattle.graph_model.specs.declared.refusal.Refusal.TheVariants as refusals
use Rattle.graph_model.specs.declared.table.Entry.{Entry}
use Rattle.graph_model.specs.Account.{Account}
use Rattle.graph_model.specs.AccountSteps.{view_of, last_with, ReadsBy, BeginsAt, WritesAt, CommitsBy, AbortsBy}
use Rattle.run_model.specs.declared.command.Command.{Command}
use Rattle.run_model.specs.declared.answer.Answer.{Answer}
use Rattle.run_model.specs.declared.answer.Answer.TheVariants as answers
use Rattle.run_model.specs.declared.command.Command.TheVariants as commands
use Rattle.run_model.specs.AnsweredLines.{effect}
use Rattle.run_model.specs.Answering.{refusal_answer, query_answer, kernel_answer, IsKernelTable}
use Rattle.run_model.specs.Inputs.{File}
use Rattle.run_model.specs.Run.{Filing, filing_of, load_stamp}
use Rattle.run_model.specs.Jobs.{is_end}

-- ---- one line

-- what a write is answered
abbrev pub write_answer : Result (Unit {0}) Refusal → Answer
write_answer (Ok done) = answers.Done
write_answer (Err refusal) = refusal_answer refusal

-- behind a write that was refused: a conflict or a full store takes the transaction back. Where memory was
-- wanted there is no report
abbrev pub RefusedLeaves : Refusal → Account → Account → Type 0
RefusedLeaves refusals.SelfLoop old new = ReadsBy old new
RefusedLeaves (refusals.NoVertex v) old new = ReadsBy old new
RefusedLeaves refusals.VertexExists old new = ReadsBy old new
RefusedLeaves refusals.EdgeExists old new = ReadsBy old new
RefusedLeaves refusals.NoEdge old new = ReadsBy old new
RefusedLeaves refusals.HasEdges old new = ReadsBy old new
RefusedLeaves (refusals.Conflict cause) old new = AbortsBy old new
RefusedLeaves (refusals.Full leaves) old new = AbortsBy old new
RefusedLeaves refusals.NoMemory old new = ⊥

-- behind a write
abbrev pub WriteLeaves : Result (Unit {0}) Refusal → Account → Account → Type 0
WriteLeaves (Ok done) old new = ReadsBy old new
WriteLeaves (Err refusal) old new = RefusedLeaves refusal old new

-- a line that isn't skipped, by the calls that it makes
abbrev pub LiveLineBy : Account → Command → Answer → Account → Type 0
LiveLineBy old commands.Begin answer new =
    (begun : Begun) × (answer ≡ answers.Begun begun.by begun.start) × BeginsAt old begun new
LiveLineBy old commands.Commit answer new =
    (stamp : Option ℕ) × (answer ≡ answers.Committed stamp) × CommitsBy old stamp new
LiveLineBy old commands.Abort answer new = (answer ≡ answers.Aborted) × AbortsBy old new
LiveLineBy old (commands.Write w) answer new = (start : ℕ) × (result : Result (Unit {0}) Refusal) × (between : Account)
    × (old.start ≡ Some start) × (answer ≡ write_answer result) × WritesAt old start w result between
    × WriteLeaves result between new
LiveLineBy old (commands.Read query) answer new =
    ((start : ℕ) → old.start ≡ Some start → answer ≡ query_answer old.kind (view_of old start) query)
    × ReadsBy old new
LiveLineBy old (commands.Run kernel file) answer new =
    ((start : ℕ) → old.start ≡ Some start → answer ≡ kernel_answer (view_of old start) kernel)
    × ReadsBy old new

-- where a line has a file it is the next one, and holds the kernel's table on what the transaction sees
abbrev pub TableBy : Account → Option Filing → List File → List File → Type 0
TableBy old None files rest = files ≡ rest
TableBy old (Some filing) files rest =
    (table : List Entry) × (files ≡ record { name = filing.name; table = table } ∷ rest)
    × ((start : ℕ) → old.start ≡ Some start → IsKernelTable old.kind (view_of old start) filing.kernel table)

-- a line, before which more of the journal may have been seen; behind a stop it is skipped
pub record LineBy (skipping : Bool) (old : Account) (r : Command) (answer : Answer) (files rest : List File)
    (new : Account) : Type 0 where
  pub now : Account
  pub waits : ReadsBy old now
  pub does : cond skipping ((answer ≡ answers.Skipped) × ReadsBy now new) (LiveLineBy now r answer new)
  pub table : TableBy now (cond (effect answer).files (filing_of r) None) files rest

-- whether the line behind this one is skipped
abbrev pub skips_behind : Bool → Command → Answer → Bool
skips_behind skipping r answer = cond skipping (not (is_end r)) (effect answer).stops

-- ---- what is made

-- `begin` opens a list of writes, and a write that is made stands last
abbrev pub made_behind : List (List Write) → Command → Answer → List (List Write)
made_behind made commands.Begin answer = made ++ [] ∷ []
made_behind made commands.Commit answer = made
made_behind made commands.Abort answer = made
made_behind made (commands.Write w) answer = cond (effect answer).writes (last_with made w) made
made_behind made (commands.Read query) answer = made
made_behind made (commands.Run kernel file) answer = made

-- ---- all lines

-- lines one behind the other, with their answers and files: from an account where lines are skipped or not, to
-- another
abbrev pub LinesBy : Bool → Account → List Command → List Answer → List File → Bool → Account → Type 0
LinesBy skipping old [] [] files skips last = ReadsBy old last × (skipping ≡ skips) × (files ≡ [])
LinesBy skipping old [] (a ∷ report) files skips last = ⊥
LinesBy skipping old (c ∷ cs) [] files skips last = ⊥
LinesBy skipping old (c ∷ cs) (a ∷ report) files skips last =
    (next : Account) × (rest : List File) × LineBy skipping old c a files rest next
    × LinesBy (skips_behind skipping c a) next cs report rest skips last

-- the pass of a script before its first line: it has begun nothing, and has seen the load
pub record IsUnbegun (kind : Kind) (load : List Write) (job : ℕ) (account : Account) : Type 0 where
  pub job_is : account.job ≡ job
  pub kind_is : account.kind ≡ kind
  pub made : account.made ≡ []
  pub begun : account.begun ≡ 0
  pub closed : account.start ≡ None
  pub stamps : account.stamps ≡ []
  pub loaded : load_stamp load ≤ length account.seen

-- the script of this number ran to its end: its answers and files, and the account that its pass was left with
pub record HasRunBy (kind : Kind) (load : List Write) (job : ℕ) (cs : List Command) (report : List Answer)
    (files : List File) (last : Account) : Type 0 where
  pub first : Account
  pub unbegun : IsUnbegun kind load job first
  pub skips : Bool
  pub lines : LinesBy false first cs report files skips last

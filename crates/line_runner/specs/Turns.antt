-- A turn of a line by the calls of its engine, whatever the engine is known by: the account of its pass, or the core of
-- one owner.
use Rattle.std.specs.Prelude.{◌≡◌, ◌⊎◌, ℕ, zero, suc, ◌+◌, ◌/◌, ◌<◌, Bool, true, false, cond, nat_lt, Option, Some, IfSome, IsSome, unwrap_or, Result, Ok, Err, OnOk}
use Rattle.items.specs.declared.memory.NoMemory.{NoMemory}
use Rattle.graph_model.specs.declared.limits.TheConstants.{SCAN_ROWS}
use Rattle.graph_model.specs.declared.write.Write.{Write}
use Rattle.graph_model.specs.declared.journal.Begun.{Begun}
use Rattle.graph_model.specs.declared.refusal.BeginRefusal.{BeginRefusal}
use Rattle.graph_model.specs.declared.refusal.BeginRefusal.TheVariants as begin_refusals
use Rattle.graph_model.specs.declared.refusal.Refusal.{Refusal}
use Rattle.graph_model.specs.declared.refusal.Refusal.TheVariants as refusals
use Rattle.graph_model.specs.Account.{Account, IsValid}
use Rattle.graph_model.specs.AccountSteps.{view_of, ReadsBy, BeginsBy, WritesBy, CommitsBy, AbortsBy}
use Rattle.graph_model.specs.Graph.{Graph}
use Rattle.graph_model.specs.Legal.{IsLegal}
use Rattle.graph_model.specs.OwnerCalls.{Core, account_here, BeginsHere, WritesHere, CommitsHere, AbortsHere}
use Rattle.run_model.specs.declared.answer.Answer.{Answer}
use Rattle.run_model.specs.declared.answer.Answer.TheVariants as answers
use Rattle.run_model.specs.Answering.{query_answer}
use Rattle.run_model.specs.declared.command.Command.{Command}
use Rattle.run_model.specs.declared.command.Command.TheVariants as commands
use Rattle.run_model.specs.declared.command.Query.{Query}
use Rattle.run_model.specs.Commands.{IsCommand, open_behind}
use Rattle.run_model.specs.Jobs.{scanned, skips}
use Rattle.line_runner.specs.declared.answering.LineAnswer.{LineAnswer}
use Rattle.line_runner.specs.declared.answering.LineTurn.{LineTurn}
use Rattle.line_runner.specs.declared.answering.LineTurn.TheVariants.{Scanning, Answering}
use Rattle.line_runner.specs.declared.kernel_line.ImageTurn.{ImageTurn}
use Rattle.line_runner.specs.declared.kernel_line.ImageTurn.TheVariants.{Further, Whole}
use Rattle.line_runner.specs.declared.phase.Phase.{Phase}
use Rattle.line_runner.specs.declared.phase.Phase.TheVariants.{Between, Open, Skipping}
use Rattle.line_runner.specs.declared.reading.LineReading.{LineReading}
use Rattle.line_runner.specs.declared.reading.LineReading.TheVariants as readings
use Rattle.line_runner.specs.declared.scan.Scan.{Scan}
use Rattle.line_runner.specs.Kernels.{IsKeptImage}
use Rattle.line_runner.specs.Scanning.{too_many_turns, IsWhole, IsReading, taken_of}
use Rattle.line_runner.specs.Phases.{is_skipping, is_inside, IsPhase, phase_behind, plain, AnswersKernel}

-- ---- what a turn may rely on

-- what the open transaction of a pass sees
abbrev pub view_now : Account → Graph
view_now account = view_of account (unwrap_or account.start 0)

-- the line at hand of a job may be taken, on this pass
pub record MayTakeNow (account : Account) (phase : Phase) (reading : Option LineReading) (r : Command) : Type 0 where
  pub valid : IsValid account
  pub phase_is : IsPhase phase account.start
  -- it may stand there, and its numbers are within their limits
  pub stands : (behind : Bool) × (open_behind (is_inside phase) r ≡ Some behind)
  pub within : IsCommand r
  pub room : r ≡ commands.Begin → account.begun < account.allowed
  -- what has been read is the line's
  pub reads : IfSome reading (IsReading (view_now account) r)

-- the line reads no rows: it begins or ends a transaction, or writes
abbrev pub is_call : Command → Bool
is_call commands.Begin = true
is_call commands.Commit = true
is_call commands.Abort = true
is_call (commands.Write w) = true
is_call (commands.Read query) = false
is_call (commands.Run kernel file) = false

-- ---- turns of a line that reads

-- on a graph so many turns of the line were taken, and this one isn't the last
abbrev pub goes_on_at : Graph → Bool → ℕ → Command → Bool
goes_on_at g skipping taken r = nat_lt (taken + 1) (cond skipping 1 (scanned g r / SCAN_ROWS + 1))

-- a turn that isn't the last changes nothing but how far the line has come
pub record ReadsFurther (g : Graph) (phase : Phase) (before : Option LineReading) (r : Command) (next : LineReading)
    : Type 0 where
  pub is_open : phase ≡ Open
  pub more : goes_on_at g false (taken_of before) r ≡ true
  pub taken : taken_of (Some next) ≡ taken_of before + 1
  pub small : taken_of (Some next) < too_many_turns
  pub reads : IsReading g r next

-- a turn of a scan leaves rows, or is the last
pub record Advances (g : Graph) (before : Option LineReading) (r : Command) (next : Scan) : Type 0 where
  pub portion : next.cursor.done ≡ false → ReadsFurther g Open before r (readings.Scan next)
  pub rest : next.cursor.done ≡ true → IsWhole g r next × (goes_on_at g false (taken_of before) r ≡ false)

-- a turn of a kernel's line leaves turns, or is the last and has the image that the kernel runs on
abbrev pub ReadsImage : Graph → Option LineReading → Command → ImageTurn → Type 0
ReadsImage g before r (Further reading) = ReadsFurther g Open before r reading
ReadsImage g before r (Whole kept) = IsKeptImage g kept × (goes_on_at g false (taken_of before) r ≡ false)

-- ---- calls

-- of an engine: its account, and what each call does
pub record Calls (S : Type 0) : Type 1 where
  pub account : S → Account
  pub begins : S → Result Begun BeginRefusal → S → Type 0
  pub writes : S → Write → Result (Unit {0}) Refusal → S → Type 0
  pub reads : S → S → Type 0
  pub commits : S → Option ℕ → S → Type 0
  pub aborts : S → S → Type 0

abbrev pub calls : {S : Type 0} → (S → Account) → (S → Result Begun BeginRefusal → S → Type 0)
    → (S → Write → Result (Unit {0}) Refusal → S → Type 0) → (S → S → Type 0) → (S → Option ℕ → S → Type 0)
    → (S → S → Type 0) → Calls S
calls account begins writes reads commits aborts = record {
  account = account;
  begins = begins;
  writes = writes;
  reads = reads;
  commits = commits;
  aborts = aborts;
}

-- so many reads, one behind the other
abbrev pub ReadsTimes : {S : Type 0} → (S → S → Type 0) → ℕ → S → S → Type 0
ReadsTimes reads zero old new = new ≡ old
ReadsTimes {S = S} reads (suc n) old new = (next : S) × reads old next × ReadsTimes reads n next new

-- some reads
abbrev pub ReadsOn : {S : Type 0} → (S → S → Type 0) → S → S → Type 0
ReadsOn reads old new = (n : ℕ) × ReadsTimes reads n old new

-- ---- writes

-- the transaction goes on, and nothing more was called
abbrev pub GoesOpen : {S : Type 0} → S → Answer → Result LineAnswer NoMemory → S → Type 0
GoesOpen old answer result new = (result ≡ Ok (plain answer Open)) × (new ≡ old)

-- the transaction is taken back
abbrev pub StopsOn : {S : Type 0} → (S → S → Type 0) → S → Answer → Result LineAnswer NoMemory → S → Type 0
StopsOn aborts old answer result new = (result ≡ Ok (plain answer Skipping)) × aborts old new

-- behind a write that the engine refused: a conflict or a full store stops the transaction
abbrev pub FinishesRefusedOn : {S : Type 0} → (S → S → Type 0) → S → Refusal → Result LineAnswer NoMemory → S → Type 0
FinishesRefusedOn aborts old refusals.SelfLoop result new = GoesOpen old answers.SelfLoop result new
FinishesRefusedOn aborts old (refusals.NoVertex v) result new = GoesOpen old (answers.NoVertex v) result new
FinishesRefusedOn aborts old refusals.VertexExists result new = GoesOpen old answers.Exists result new
FinishesRefusedOn aborts old refusals.EdgeExists result new = GoesOpen old answers.Exists result new
FinishesRefusedOn aborts old refusals.NoEdge result new = GoesOpen old answers.NoEdge result new
FinishesRefusedOn aborts old refusals.HasEdges result new = GoesOpen old answers.HasEdges result new
FinishesRefusedOn aborts old (refusals.Conflict cause) result new =
    StopsOn aborts old (answers.Conflict cause) result new
FinishesRefusedOn aborts old (refusals.Full leaves) result new = StopsOn aborts old answers.Full result new
FinishesRefusedOn aborts old refusals.NoMemory result new = OnOk result ⊥ × (new ≡ old)

-- behind a write
abbrev pub FinishesOn : {S : Type 0} → (S → S → Type 0) → S → Result (Unit {0}) Refusal → Result LineAnswer NoMemory → S
    → Type 0
FinishesOn aborts old (Ok done) result new = GoesOpen old answers.Done result new
FinishesOn aborts old (Err refusal) result new = FinishesRefusedOn aborts old refusal result new

-- a write and what is behind it
abbrev pub WritesOn : {S : Type 0} → (S → Write → Result (Unit {0}) Refusal → S → Type 0) → (S → S → Type 0)
    → S → Write → Result LineAnswer NoMemory → S → Type 0
WritesOn {S = S} writes aborts old w result new =
    (wrote : Result (Unit {0}) Refusal) × (mid : S) × writes old w wrote mid × FinishesOn aborts mid wrote result new

-- ---- a line

-- a read was answered by what the transaction sees
pub record AnswersRead {S : Type 0} (account : S → Account) (reads : S → S → Type 0) (old : S) (query : Query)
    (given : LineAnswer) (new : S) : Type 0 where
  pub answer : Answer
  pub given_is : given ≡ plain answer Open
  pub right : answer ≡ query_answer (account old).kind (view_now (account old)) query
  pub reads_on : ReadsOn reads old new

-- a line that isn't skipped was answered, by the calls that it made
abbrev pub AnswersLive : {S : Type 0} → Calls S → S → Command → LineAnswer → S → Type 0
AnswersLive e old commands.Begin given new =
    (begun : Begun) × (given ≡ plain (answers.Begun begun.by begun.start) Open) × e.begins old (Ok begun) new
AnswersLive e old commands.Commit given new =
    (stamp : Option ℕ) × (given ≡ plain (answers.Committed stamp) Between) × e.commits old stamp new
AnswersLive e old commands.Abort given new = (given ≡ plain answers.Aborted Between) × e.aborts old new
AnswersLive e old (commands.Write w) given new = WritesOn e.writes e.aborts old w (Ok given) new
AnswersLive e old (commands.Read query) given new = AnswersRead e.account e.reads old query given new
AnswersLive e old (commands.Run kernel file) given new =
    AnswersKernel (e.account old).kind (view_now (e.account old)) kernel file given × ReadsOn e.reads old new

-- a line that is skipped was answered, without a call
abbrev pub AnswersSkipped : {S : Type 0} → S → Command → LineAnswer → S → Type 0
AnswersSkipped old r given new = (given ≡ plain answers.Skipped (phase_behind (skips r))) × (new ≡ old)

-- a line was answered
abbrev pub AnswersLine : {S : Type 0} → Calls S → S → Phase → Command → LineAnswer → S → Type 0
AnswersLine e old phase r given new =
    cond (is_skipping phase) (AnswersSkipped old r given new) (AnswersLive e old r given new)

-- the last turn of a line answers it
pub record AnswersOn {S : Type 0} (e : Calls S) (old : S) (phase : Phase) (reading : Option LineReading) (r : Command)
    (given : LineAnswer) (new : S) : Type 0 where
  pub last : goes_on_at (view_now (e.account old)) (is_skipping phase) (taken_of reading) r ≡ false
  pub does : AnswersLine e old phase r given new

-- one turn of a line
abbrev pub TakesOn : {S : Type 0} → Calls S → S → Phase → Option LineReading → Command → LineTurn → S → Type 0
TakesOn e old phase reading r (Scanning next) new =
    ReadsFurther (view_now (e.account old)) phase reading r next × ReadsOn e.reads old new
TakesOn e old phase reading r (Answering given) new = AnswersOn e old phase reading r given new

-- memory was wanted: of `begin`, of a write, or beside reads
abbrev pub WantsOn : {S : Type 0} → Calls S → S → S → Type 0
WantsOn e old new =
    e.begins old (Err begin_refusals.NoMemory) new
    ⊎ (IsSome (e.account old).start × ((w : Write) × e.writes old w (Err refusals.NoMemory) new))
    ⊎ ReadsOn e.reads old new

-- ---- what the calls are

-- the journal that was seen is legal
abbrev pub SeesLegal : Account → Type 0
SeesLegal account = IsLegal account.kind account.seen

-- each call by the account of its pass, as the laws of `Engine` have it
pub record AreByAccount {S : Type 0} (e : Calls S) : Type 0 where
  pub begins_by : (s t : S) (r : Result Begun BeginRefusal) → e.begins s r t
      → BeginsBy (e.account s) r (e.account t) × SeesLegal (e.account t)
  pub writes_by : (s t : S) (w : Write) (r : Result (Unit {0}) Refusal) → e.writes s w r t
      → WritesBy (e.account s) w r (e.account t) × SeesLegal (e.account t)
  pub reads_by : (s t : S) → e.reads s t → ReadsBy (e.account s) (e.account t) × SeesLegal (e.account t)
  pub commits_by : (s t : S) (r : Option ℕ) → e.commits s r t
      → CommitsBy (e.account s) r (e.account t) × SeesLegal (e.account t)
  pub aborts_by : (s t : S) → e.aborts s t → AbortsBy (e.account s) (e.account t) × SeesLegal (e.account t)

-- each call by the core of one owner, as the laws of `StepEngine` have it
pub record AreExact {S : Type 0} (e : Calls S) (core : S → Core) : Type 0 where
  pub accounts : (s : S) → e.account s ≡ account_here (core s)
  pub begins_here : (s t : S) (r : Result Begun BeginRefusal) → e.begins s r t → BeginsHere (core s) r (core t)
  pub writes_here : (s t : S) (w : Write) (r : Result (Unit {0}) Refusal) → e.writes s w r t
      → WritesHere (core s) w r (core t)
  pub reads_here : (s t : S) → e.reads s t → core t ≡ core s
  pub commits_here : (s t : S) (r : Option ℕ) → e.commits s r t → CommitsHere (core s) r (core t)
  pub aborts_here : (s t : S) → e.aborts s t → AbortsHere (core s) (core t)

-- A job under way, as its contracts see it, and the state of a run that jobs and engine have.
use Rattle.std.specs.Prelude.{◌≡◌, ℕ, ◌≤◌, ◌<◌, Bool, true, false, cond, not, ◌&&◌, ◌||◌, List, [], ◌∷◌, ◌++◌, length, drop, Option, Some, None, IfSome, Result, Ok, Err}
use Rattle.items.specs.declared.memory.NoMemory.{NoMemory}
use Rattle.graph_model.specs.Account.{Account, IsValid}
use Rattle.graph_model.specs.Graph.{Graph}
use Rattle.graph_model.specs.OwnerCalls.{PassState, Core, account_here}
use Rattle.run_model.specs.declared.command.Command.{Command}
use Rattle.run_model.specs.declared.command.Command.TheVariants as commands
use Rattle.run_model.specs.declared.answer.Answer.{Answer}
use Rattle.run_model.specs.AnsweredLines.{answered_lines}
use Rattle.run_model.specs.Commands.{begun_by, IsScript}
use Rattle.run_model.specs.Jobs.{JobState, RunState, is_empty}
use Rattle.line_runner.specs.declared.answering.LineAnswer.{LineAnswer}
use Rattle.line_runner.specs.declared.answering.LineTurn.{LineTurn}
use Rattle.line_runner.specs.declared.answering.LineTurn.TheVariants.{Scanning, Answering}
use Rattle.line_runner.specs.declared.kept.KeptImage.{KeptImage}
use Rattle.line_runner.specs.declared.phase.Phase.{Phase}
use Rattle.line_runner.specs.declared.phase.Phase.TheVariants.{Between, Open, Skipping, GivenUp}
use Rattle.line_runner.specs.declared.reading.LineReading.{LineReading}
use Rattle.line_runner.specs.declared.table.NamedTable.{NamedTable}
use Rattle.job_runner.specs.declared.turn.JobTurn.{JobTurn}
use Rattle.job_runner.specs.declared.turn.JobTurn.TheVariants as turns
use Rattle.line_runner.specs.Kernels.{IsKeptImage}
use Rattle.line_runner.specs.Scanning.{too_many_turns, IsReading, replays_on as on_image, taken_of}
use Rattle.line_runner.specs.Phases.{is_skipping, is_inside, IsPhase, image_behind}
use Rattle.line_runner.specs.Turns.{view_now, goes_on_at, ReadsFurther, ReadsOn, Calls, AnswersLine, TakesOn, WantsOn}
use Rattle.line_runner.specs.Lines.{view_here, TakesHere, given_up}

pub record Progress : Type 0 where
  -- the number of the script, and of the job's pass
  pub number : ℕ
  pub commands : List Command
  -- the answers so far, and the tables of those that have one
  pub answers : List Answer
  pub tables : List NamedTable
  pub phase : Phase
  -- what the line at hand has read, if it has taken a turn
  pub reading : Option LineReading
  -- the image of what the open transaction sees, if one is kept
  pub image : Option KeptImage

-- a job that has taken no turn
abbrev pub new_progress : ℕ → List Command → Progress
new_progress number commands = record {
  number = number;
  commands = commands;
  answers = [];
  tables = [];
  phase = Between;
  reading = None;
  image = None;
}

-- the lines that aren't answered, the first of which is at hand
abbrev pub left_of : Progress → List Command
left_of job = drop (length job.answers) job.commands

-- whether the job has given up for want of memory
abbrev pub has_given_up : Phase → Bool
has_given_up Between = false
has_given_up Open = false
has_given_up Skipping = false
has_given_up GivenUp = true

-- each line is answered, or the job has given up
abbrev pub is_over : Progress → Bool
is_over job = has_given_up job.phase || is_empty (left_of job)

-- ---- one turn

-- the table of an answer, if it has one
abbrev pub listed_table : Option NamedTable → List NamedTable
listed_table None = []
listed_table (Some table) = table ∷ []

-- the job behind a turn of its line at hand, which has left this image of what the transaction saw before it
abbrev pub behind : Progress → Option KeptImage → LineTurn → Progress
behind job image (Scanning reading) = record job { reading = Some reading; image = image }
behind job image (Answering given) = record job {
  answers = job.answers ++ given.answer ∷ [];
  tables = job.tables ++ listed_table given.table;
  phase = given.phase;
  reading = None;
  image = image_behind job.phase given image;
}

-- the job and its pass fit each other, and the rest of the script may be taken
pub record IsReadyBy (account : Account) (job : Progress) : Type 0 where
  pub number : account.job ≡ job.number
  pub valid : IsValid account
  pub phase_is : IsPhase job.phase account.start
  -- the pass may begin the transactions of the lines that are left
  pub room : begun_by account.begun (left_of job) ≤ account.allowed
  pub script : IsScript (Some (is_inside job.phase)) (left_of job)
  -- what has been read is that of the line at hand
  pub reads : (c : Command) (rest : List Command) → left_of job ≡ c ∷ rest
      → IfSome job.reading (IsReading (view_now account) c)
  pub small : taken_of job.reading < too_many_turns
  pub kept : IfSome job.image (IsKeptImage (view_now account))

-- the same of the pass that is selected
pub record IsReady (core : Core) (job : Progress) : Type 0 where
  pub selected : core.selected < length core.passes
  pub now : IsReadyBy (account_here core) job

-- the line at hand takes a turn, by the calls of the engine
pub record TakesTurnOn {S : Type 0} (e : Calls S) (old : S) (job : Progress) (c : Command) (next : Progress) (new : S)
    : Type 0 where
  pub turn : LineTurn
  pub takes : TakesOn e old job.phase job.reading c turn new
  pub image : Option KeptImage
  pub kept : IfSome image (IsKeptImage (view_now (e.account old)))
  pub job_is : next ≡ behind job image turn

-- turns of the line at hand are left on the image that is kept for it, beside the last one
abbrev pub replays_on : Phase → Option LineReading → Bool
replays_on Between reading = false
replays_on Open None = false
replays_on Open (Some reading) = on_image reading
replays_on Skipping reading = false
replays_on GivenUp reading = false

-- the line at hand takes a turn on the image that is kept for it, and not its last one
pub record Replays (job next : Progress) : Type 0 where
  pub reading : LineReading
  pub further : LineReading
  pub reads : job.reading ≡ Some reading
  pub is_open : job.phase ≡ Open
  pub goes_on : (g : Graph) (c : Command) → IsReading g c reading → ReadsFurther g Open (Some reading) c further
  pub job_is : next ≡ record job { reading = Some further }

-- the transaction, if one is open, is taken back
abbrev pub GivesUpOn : {S : Type 0} → (S → S → Type 0) → Phase → S → S → Type 0
GivesUpOn aborts Between old new = new ≡ old
GivesUpOn aborts Open old new = aborts old new
GivesUpOn aborts Skipping old new = new ≡ old
GivesUpOn aborts GivenUp old new = new ≡ old

-- a job that has given up
abbrev pub gone : Progress → Progress
gone job = record job { phase = GivenUp; reading = None; image = None }

-- Memory ran out in a turn: the job keeps its answers and its tables, takes no line any more, and its pass has no open
-- transaction.
pub record IsRolledBack (job next : Progress) (account : Account) : Type 0 where
  pub answers : next.answers ≡ job.answers
  pub tables : next.tables ≡ job.tables
  pub over : is_over next ≡ true
  pub closed : account.start ≡ None

-- what a turn comes to: the line at hand takes it in this way, or memory was wanted, and the transaction is taken back
abbrev pub ComesTo : {S : Type 0} → Calls S → (Command → Progress → S → Type 0) → S → Progress → JobTurn → Progress → S
    → Type 0
ComesTo e Takes old job turns.More next new =
    (is_over next ≡ false) × ((c : Command) (rest : List Command) → left_of job ≡ c ∷ rest → Takes c next new)
ComesTo e Takes old job turns.Ended next new =
    (is_over next ≡ true) × ((c : Command) (rest : List Command) → left_of job ≡ c ∷ rest → Takes c next new)
ComesTo {S = S} e Takes old job turns.NoMemory next new =
    (mid : S) × WantsOn e old mid × GivesUpOn e.aborts job.phase mid new × (next ≡ gone job)

-- what a turn by the calls of the engine comes to
abbrev pub TookTurnOn : {S : Type 0} → Calls S → S → Progress → JobTurn → Progress → S → Type 0
TookTurnOn e old job turn next new = ComesTo e (TakesTurnOn e old job) old job turn next new

-- behind a turn that was taken, or that wanted memory: the job goes on or has ended, or its transaction is taken back
abbrev pub EndsTurnOn : {S : Type 0} → (S → S → Type 0) → Result (Unit {0}) NoMemory → S → Progress → JobTurn → Progress
    → S → Type 0
EndsTurnOn aborts (Ok done) old job turn next new =
    (turn ≡ cond (is_over job) turns.Ended turns.More) × (next ≡ job) × (new ≡ old)
EndsTurnOn aborts (Err wanted) old job turn next new =
    (turn ≡ turns.NoMemory) × GivesUpOn aborts job.phase old new × (next ≡ gone job)

-- ---- one turn, where several readers scan the rows of a kernel

-- the line runs a kernel
abbrev pub runs_kernel : Command → Bool
runs_kernel commands.Begin = false
runs_kernel commands.Commit = false
runs_kernel commands.Abort = false
runs_kernel (commands.Write w) = false
runs_kernel (commands.Read query) = false
runs_kernel (commands.Run kernel file) = true

-- so many turns of the line were taken, and this one isn't the last: a kernel's line takes one
abbrev pub goes_on_in_parts : Graph → Bool → ℕ → Command → Bool
goes_on_in_parts g skipping taken r = not (runs_kernel r) && goes_on_at g skipping taken r

-- the last turn of a line answers it
pub record AnswersInParts {S : Type 0} (e : Calls S) (old : S) (phase : Phase) (reading : Option LineReading)
    (r : Command) (given : LineAnswer) (new : S) : Type 0 where
  pub last : goes_on_in_parts (view_now (e.account old)) (is_skipping phase) (taken_of reading) r ≡ false
  pub does : AnswersLine e old phase r given new

-- one turn of a line
abbrev pub TakesInParts : {S : Type 0} → Calls S → S → Phase → Option LineReading → Command → LineTurn → S → Type 0
TakesInParts e old phase reading r (Scanning next) new =
    ReadsFurther (view_now (e.account old)) phase reading r next × ReadsOn e.reads old new × (runs_kernel r ≡ false)
TakesInParts e old phase reading r (Answering given) new = AnswersInParts e old phase reading r given new

-- the line at hand takes a turn
pub record TakesTurnInParts {S : Type 0} (e : Calls S) (old : S) (job : Progress) (c : Command) (next : Progress)
    (new : S) : Type 0 where
  pub turn : LineTurn
  pub takes : TakesInParts e old job.phase job.reading c turn new
  pub image : Option KeptImage
  pub kept : IfSome image (IsKeptImage (view_now (e.account old)))
  pub job_is : next ≡ behind job image turn

-- what that comes to
abbrev pub TookInParts : {S : Type 0} → Calls S → S → Progress → JobTurn → Progress → S → Type 0
TookInParts e old job turn next new = ComesTo e (TakesTurnInParts e old job) old job turn next new

-- ---- one turn, on the core of one owner

-- the line at hand takes a turn, on the core of one owner
pub record TakesTurn (old : Core) (job : Progress) (c : Command) (next : Progress) (new : Core) : Type 0 where
  pub turn : LineTurn
  pub takes : TakesHere old job.phase job.reading c turn new
  pub image : Option KeptImage
  pub kept : IfSome image (IsKeptImage (view_here old))
  pub job_is : next ≡ behind job image turn

-- what that comes to
abbrev pub TookTurn : Core → Progress → JobTurn → Progress → Core → Type 0
TookTurn old job turns.More next new = (is_over next ≡ false)
    × ((c : Command) (rest : List Command) → left_of job ≡ c ∷ rest → TakesTurn old job c next new)
TookTurn old job turns.Ended next new = (is_over next ≡ true)
    × ((c : Command) (rest : List Command) → left_of job ≡ c ∷ rest → TakesTurn old job c next new)
TookTurn old job turns.NoMemory next new =
    (new ≡ given_up old job.phase) × (next ≡ gone job)

-- ---- the state of a run

-- a script under way, as its job and its pass have it
abbrev pub job_at : PassState → Progress → JobState
job_at pass job = record {
  lines = answered_lines job.commands job.answers;
  left = left_of job;
  taken = taken_of job.reading;
  begun = pass.begun;
  start = pass.start;
  own = pass.own;
  skipping = is_skipping job.phase;
}

-- the scripts under way, whose passes are those behind the first
abbrev pub seats : List PassState → List Progress → List JobState
seats [] jobs = []
seats (pass ∷ passes) [] = []
seats (pass ∷ passes) (job ∷ jobs) = job_at pass job ∷ seats passes jobs

-- script k uses pass k, and pass 0 is the service's
abbrev pub state_of : Core → List Progress → RunState
state_of core jobs = record { journal = core.journal; jobs = seats (drop 1 core.passes) jobs }

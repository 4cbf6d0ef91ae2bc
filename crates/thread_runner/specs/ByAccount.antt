-- A job's turns by the account of its pass, and what all of them leave.
use Rattle.std.specs.Prelude.{◌≡◌, ℕ, zero, suc, ◌≤◌, Bool, true, false, cond, List, [], ◌∷◌, length, map, take, Option, Some, IfSome}
use Rattle.graph_model.specs.declared.write.Kind.{Kind}
use Rattle.graph_model.specs.declared.write.Write.{Write}
use Rattle.graph_model.specs.Account.{Account, IsValid}
use Rattle.graph_model.specs.AccountSteps.{ReadsBy, AbortsBy}
use Rattle.run_model.specs.declared.command.Command.{Command}
use Rattle.run_model.specs.Commands.{begun_by, IsScript}
use Rattle.side_runs.specs.ByAccount.{LineBy, skips_behind, LinesBy, IsUnbegun, HasRunBy}
use Rattle.job_runner.specs.LineRunnerDeclared.answering.LineAnswer.{LineAnswer}
use Rattle.job_runner.specs.LineRunnerDeclared.answering.LineTurn.{LineTurn}
use Rattle.job_runner.specs.LineRunnerDeclared.answering.LineTurn.TheVariants.{Scanning, Answering}
use Rattle.job_runner.specs.LineRunnerDeclared.kept.KeptImage.{KeptImage}
use Rattle.job_runner.specs.LineRunnerDeclared.phase.Phase.{Phase}
use Rattle.job_runner.specs.LineRunnerDeclared.phase.Phase.TheVariants.{Between, Open, Skipping, GivenUp}
use Rattle.job_runner.specs.LineRunnerDeclared.reading.LineReading.{LineReading}
use Rattle.job_runner.specs.LineRunner.Kernels.{IsKeptImage}
use Rattle.job_runner.specs.LineRunner.Scanning.{taken_of}
use Rattle.job_runner.specs.LineRunner.Phases.{is_skipping, phase_at, file_of}
use Rattle.job_runner.specs.LineRunner.Turns.{view_now, ReadsFurther}
use Rattle.job_runner.specs.declared.turn.JobTurn.{JobTurn}
use Rattle.job_runner.specs.declared.turn.JobTurn.TheVariants as turns
use Rattle.job_runner.specs.Progress.{Progress, new_progress, left_of, listed_table, has_given_up, is_over, behind, gone, runs_kernel, goes_on_in_parts, IsReadyBy}

-- ---- one turn

-- the phase of a job behind a line, where those behind it are skipped or not
abbrev pub phase_left : Bool → Account → Phase
phase_left skips account = cond skips Skipping (phase_at account.start)

-- the last turn of a line answers it
pub record AnswersBy (old : Account) (phase : Phase) (reading : Option LineReading) (r : Command) (given : LineAnswer)
    (new : Account) : Type 0 where
  pub last : goes_on_in_parts (view_now old) (is_skipping phase) (taken_of reading) r ≡ false
  pub does : LineBy (is_skipping phase) old r given.answer (map file_of (listed_table given.table)) [] new
  pub phase_is : given.phase ≡ phase_left (skips_behind (is_skipping phase) r given.answer) new

-- one turn of a line: that of a kernel takes no other. Where turns are left more of the journal may have been seen, and
-- nothing else has changed
abbrev pub TakesBy : Account → Phase → Option LineReading → Command → LineTurn → Account → Type 0
TakesBy old phase reading r (Scanning next) new =
    ReadsFurther (view_now old) phase reading r next × ReadsBy old new × (runs_kernel r ≡ false)
TakesBy old phase reading r (Answering given) new = AnswersBy old phase reading r given new

-- the line at hand takes a turn
pub record TakesTurnBy (old : Account) (job : Progress) (c : Command) (next : Progress) (new : Account) : Type 0 where
  pub turn : LineTurn
  pub takes : TakesBy old job.phase job.reading c turn new
  pub image : Option KeptImage
  pub kept : IfSome image (IsKeptImage (view_now old))
  pub job_is : next ≡ behind job image turn

-- the transaction, if one is open, is taken back
abbrev pub GivesUpBy : Account → Phase → Account → Type 0
GivesUpBy old Between new = ReadsBy old new
GivesUpBy old Open new = AbortsBy old new
GivesUpBy old Skipping new = ReadsBy old new
GivesUpBy old GivenUp new = ReadsBy old new

-- what a turn comes to: the line at hand takes it, or memory was wanted, and the transaction is taken back
abbrev pub TookTurnBy : Account → Progress → JobTurn → Progress → Account → Type 0
TookTurnBy old job turns.More next new = (is_over next ≡ false)
    × ((c : Command) (rest : List Command) → left_of job ≡ c ∷ rest → TakesTurnBy old job c next new)
TookTurnBy old job turns.Ended next new = (is_over next ≡ true)
    × ((c : Command) (rest : List Command) → left_of job ≡ c ∷ rest → TakesTurnBy old job c next new)
TookTurnBy old job turns.NoMemory next new = GivesUpBy old job.phase new × (next ≡ gone job)

-- ---- all turns

-- so many turns of a job, one behind the other, each on the account that the one before it left
abbrev pub TurnsBy : ℕ → Account → Progress → Progress → Account → Type 0
TurnsBy zero old job next new = (next ≡ job) × (new ≡ old)
TurnsBy (suc n) old job next new =
    (turn : JobTurn) × (between : Progress) × (then : Account) × (is_over job ≡ false)
    × TookTurnBy old job turn between then × TurnsBy n then between next new

-- a job took its turns on the account of its own pass
abbrev pub RanBy : Account → Progress → Progress → Account → Type 0
RanBy old job next new = (n : ℕ) × TurnsBy n old job next new

-- the lines that a job has answered so far, from an account that had begun nothing
pub record HasRunSoFar (kind : Kind) (load : List Write) (job : Progress) (account : Account) : Type 0 where
  pub first : Account
  pub unbegun : IsUnbegun kind load job.number first
  pub answered : length job.answers ≤ length job.commands
  pub lines : LinesBy false first (take (length job.answers) job.commands) job.answers (map file_of job.tables)
      (is_skipping job.phase) account

-- turns that never wanted memory keep what has run so far
abbrev pub TurnsKeepWhatRan : Type 0
TurnsKeepWhatRan = (kind : Kind) (load : List Write) (old new : Account) (job next : Progress)
    → RanBy old job next new → has_given_up next.phase ≡ false
    → HasRunSoFar kind load job old → HasRunSoFar kind load next new

-- and a job that is over and hasn't given up has run its script
abbrev pub JobsRunTheirScripts : Type 0
JobsRunTheirScripts = (kind : Kind) (load : List Write) (job : Progress) (account : Account)
    → HasRunSoFar kind load job account → is_over job ≡ true → has_given_up job.phase ≡ false
    → HasRunBy kind load job.number job.commands job.answers (map file_of job.tables) account

-- ---- a script from its first line on

-- a pass that has begun nothing is ready for a script, if it may begin all transactions of it
abbrev pub NewScriptsAreReady : Type 0
NewScriptsAreReady = (kind : Kind) (load : List Write) (number : ℕ) (cs : List Command) (first : Account)
    → IsUnbegun kind load number first → IsValid first → IsScript (Some false) cs
    → begun_by 0 cs ≤ first.allowed → IsReadyBy first (new_progress number cs)

-- and has run it once its job is over and hasn't given up
abbrev pub NewScriptsRun : Type 0
NewScriptsRun = (kind : Kind) (load : List Write) (number : ℕ) (cs : List Command) (first last : Account)
    (job : Progress)
    → IsUnbegun kind load number first → RanBy first (new_progress number cs) job last
    → is_over job ≡ true → has_given_up job.phase ≡ false
    → HasRunBy kind load number cs job.answers (map file_of job.tables) last

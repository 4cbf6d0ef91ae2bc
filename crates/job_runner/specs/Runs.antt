-- Jobs that run one beside the other: what holds of them and of their engine before and behind each turn.
use Rattle.std.specs.Prelude.{◌≡◌, ◌⊎◌, ℕ, suc, ◌+◌, ◌-◌, ◌*◌, ◌^◌, ◌<◌, ◌≤◌, min, Bool, true, false, cond, ◌==◌, not, List, [], ◌∷◌, ◌++◌, length, map, slice_get, sum_by, count_by, Option, Some, None, IfSome, IsSome, unwrap_or}
use Rattle.std.specs.List.{flat_map, filter_map}
use Rattle.graph_model.specs.declared.write.Write.{Write}
use Rattle.graph_model.specs.declared.journal.Commit.{Commit}
use Rattle.graph_model.specs.Graph.{Graph}
use Rattle.graph_model.specs.History.{view}
use Rattle.graph_model.specs.OwnerCalls.{PassState, Core, pass_at, one_more}
use Rattle.run_model.specs.declared.answer.Answer.{Answer}
use Rattle.run_model.specs.declared.command.Command.{Command}
use Rattle.run_model.specs.AnsweredLines.{answered_lines, made_by, own_writes}
use Rattle.run_model.specs.Inputs.{Inputs, AreInputs, Outputs}
use Rattle.run_model.specs.Commands.{begun_by}
use Rattle.run_model.specs.Run.{Context, HasFiles, MayFill}
use Rattle.run_model.specs.Jobs.{load_journal, lines_so_far, turn}
use Rattle.run_model.specs.Stepped.{IsStepped, service_turns}
use Rattle.run_model.specs.UnderWay.{IsUnderWay}
use Rattle.line_runner.specs.declared.phase.Phase.{Phase}
use Rattle.line_runner.specs.declared.phase.Phase.TheVariants.{Between, Open, Skipping, GivenUp}
use Rattle.line_runner.specs.Kernels.{IsKeptImage}
use Rattle.line_runner.specs.Scanning.{too_many_turns, IsReading, taken_of}
use Rattle.line_runner.specs.Phases.{IsPhase, file_of}
use Rattle.job_runner.specs.Progress.{Progress, new_progress, left_of, is_over, state_of}

-- ---- what a run begins with

-- jobs of these scripts, numbered from here on
abbrev pub new_jobs : ℕ → List (List Command) → List Progress
new_jobs number [] = []
new_jobs number (commands ∷ scripts) = new_progress number commands ∷ new_jobs (number + 1) scripts

-- all writes that a pass has made
abbrev pub writes_of_pass : PassState → List Write
writes_of_pass pass = flat_map (λ ws. ws) pass.made

-- a pass that has begun nothing
pub record IsUnused (pass : PassState) : Type 0 where
  pub made : pass.made ≡ []
  pub closed : pass.start ≡ None
  pub own : pass.own ≡ []
  pub begun : pass.begun ≡ 0

-- the journal and pass 0 have the load, no other pass has begun a transaction, each may begin those of its
-- script, and of the jobs no line is answered
pub record AreNew (inputs : Inputs) (core : Core) (jobs : List Progress) : Type 0 where
  pub given : AreInputs inputs
  pub kind : core.kind ≡ inputs.kind
  pub journal : core.journal ≡ load_journal inputs.load
  pub loaded : writes_of_pass (pass_at core 0) ≡ inputs.load
  pub closed : (pass_at core 0).start ≡ None
  pub unused : (k : ℕ) → IsUnused (pass_at core (suc k))
  pub room : (k : ℕ) (commands : List Command) → slice_get inputs.scripts k ≡ Some commands
      → begun_by 0 commands ≤ (pass_at core (suc k)).allowed
  pub jobs_are : jobs ≡ new_jobs 1 inputs.scripts
  pub passes : length jobs < length core.passes

-- ---- what a run keeps

-- by what the files of a script are judged: its kind and its journal
abbrev pub files_context : Core → Context
files_context core = record { kind = core.kind; load = []; journal = core.journal; scripts = []; job = 0 }

-- what the open transaction of a pass sees
abbrev pub view_of_pass : Core → PassState → Graph
view_of_pass core pass = view core.kind core.journal (unwrap_or pass.start 0) pass.own

-- a job and its pass fit each other
pub record AreTied (core : Core) (pass : PassState) (k : ℕ) (job : Progress) : Type 0 where
  pub number : job.number ≡ suc k
  pub answered : length job.answers ≤ length job.commands
  pub phase_is : IsPhase job.phase pass.start
  -- The pass has made what the lines were answered that they wrote, in a list for each transaction. The last
  -- of these lists is the open transaction's
  pub wrote : writes_of_pass pass ≡ filter_map made_by (answered_lines job.commands job.answers)
  pub counted : length pass.made ≡ pass.begun
  pub by_txn : (n : ℕ) → n < pass.begun
      → slice_get pass.made n ≡ Some (own_writes (suc n) (answered_lines job.commands job.answers))
  pub last : IsSome pass.start → (earlier : List (List Write)) × (pass.made ≡ earlier ++ pass.own ∷ [])
  -- with those of the lines that are left it begins all of its script's transactions
  pub begins : begun_by pass.begun (left_of job) ≡ begun_by 0 job.commands
  -- it may begin the transactions of the lines that are left
  pub room : begun_by pass.begun (left_of job) ≤ pass.allowed
  -- what the job has read is its line's: the rows that a scan was given, or the image of all rows
  pub reads : (c : Command) (rest : List Command) → left_of job ≡ c ∷ rest
      → IfSome job.reading (IsReading (view_of_pass core pass) c)
  pub small : taken_of job.reading < too_many_turns
  -- an image that is kept is that of what the transaction sees
  pub kept : IfSome job.image (IsKeptImage (view_of_pass core pass))
  -- each line answered `table` has its table
  pub files : HasFiles (files_context core) [] (answered_lines job.commands job.answers) (map file_of job.tables)

-- the jobs of these inputs and their engine, before and behind each turn
pub record AreUnderWay (inputs : Inputs) (core : Core) (jobs : List Progress) : Type 0 where
  pub given : AreInputs inputs
  pub kind : core.kind ≡ inputs.kind
  pub state : IsUnderWay inputs core.leaves (state_of core jobs)
  pub loaded : writes_of_pass (pass_at core 0) ≡ inputs.load
  pub closed : (pass_at core 0).start ≡ None
  pub passes : length jobs < length core.passes
  pub count : length jobs ≡ length inputs.scripts
  -- passes without a job have begun nothing
  pub unused : (k : ℕ) → length jobs ≤ k → IsUnused (pass_at core (suc k))
  pub each : (k : ℕ) (job : Progress) → slice_get jobs k ≡ Some job → AreTied core (pass_at core (suc k)) k job

-- ---- one turn

-- how many turns a job has left, at most: a line takes no more than a number of 64 bits can count
abbrev pub turns_left : Progress → ℕ
turns_left job = length (left_of job) * too_many_turns - taken_of job.reading

-- how many jobs aren't over
abbrev pub under_way : List Progress → ℕ
under_way jobs = count_by (λ job. not (is_over job)) jobs

-- A turn of this job, or of the service, was taken or passed over. It left so many jobs fewer under way
pub record Turns (old : Core) (jobs : List Progress) (number : ℕ) (ended : Bool) (new : Core) (next : List Progress)
    : Type 0 where
  pub full : Bool
  pub filling : (inputs : Inputs) → AreUnderWay inputs old jobs → full ≡ true
      → MayFill inputs.kind old.leaves inputs.load (lines_so_far (state_of old jobs))
  pub state : state_of new next ≡ turn old.kind (state_of old jobs) number full
  pub keeps : (inputs : Inputs) → AreUnderWay inputs old jobs → AreUnderWay inputs new next
  pub kind : new.kind ≡ old.kind
  pub leaves : new.leaves ≡ old.leaves
  pub served : new.served ≡ cond (number == 0) (one_more old.served) old.served
  pub journal : (rest : List Commit) × (new.journal ≡ old.journal ++ rest)
  pub left : under_way next + cond ended 1 0 ≡ under_way jobs

-- the turn of the service, or of a job that is over, leaves the jobs as they are; else the job has fewer left
pub record Goes (jobs : List Progress) (number : ℕ) (next : List Progress) : Type 0 where
  pub passed : (number ≡ 0)
      ⊎ ((k : ℕ) (job : Progress) → number ≡ suc k → slice_get jobs k ≡ Some job → is_over job ≡ true)
      → next ≡ jobs
  pub took : (k : ℕ) (job : Progress) → number ≡ suc k → slice_get jobs k ≡ Some job → is_over job ≡ false
      → sum_by turns_left next < sum_by turns_left jobs
  pub count : length next ≡ length jobs

-- ---- the end

-- the phase of a job tells where its transaction is open
abbrev pub HoldsPhase : Phase → Option ℕ → Type 0
HoldsPhase Between start = start ≡ None
HoldsPhase Open start = IsSome start
HoldsPhase Skipping start = start ≡ None
HoldsPhase GivenUp start = start ≡ None

-- no pass has an open transaction but those of jobs that say so
pub record AreHeld (core : Core) (jobs : List Progress) : Type 0 where
  pub passes : length jobs < length core.passes
  pub closed : (pass_at core 0).start ≡ None
  pub unused : (k : ℕ) → length jobs ≤ k → (pass_at core (suc k)).start ≡ None
  pub each : (k : ℕ) (job : Progress) → slice_get jobs k ≡ Some job
      → (job.number ≡ suc k) × HoldsPhase job.phase (pass_at core (suc k)).start

-- memory ran out in a turn: no pass has an open transaction but those of jobs that say so, and nothing was committed
pub record IsStuck (old new : Core) (jobs : List Progress) : Type 0 where
  pub held : AreHeld new jobs
  pub journal : new.journal ≡ old.journal

-- memory ran out in some turn of a run, before which others may have committed
pub record RunIsStuck (first new : Core) (jobs : List Progress) : Type 0 where
  pub held : AreHeld new jobs
  pub journal : (rest : List Commit) × (new.journal ≡ first.journal ++ rest)

-- memory was wanted: nothing is open, and what the journal had is kept
pub record GivesUp (old new : Core) : Type 0 where
  pub closed : (p : ℕ) → (pass_at new p).start ≡ None
  pub journal : (rest : List Commit) × (new.journal ≡ old.journal ++ rest)

-- what the engine and the jobs have to show
abbrev pub outputs_of : Core → List Progress → Outputs
outputs_of core jobs = record {
  journal = core.journal;
  reports = map (λ job. job.answers) jobs;
  files = map (λ job. map file_of job.tables) jobs;
}

-- A pass has begun all transactions of its script, and has made in each what its lines were answered that they wrote.
pub record HasDone (pass : PassState) (commands : List Command) (answers : List Answer) : Type 0 where
  pub begun : pass.begun ≡ begun_by 0 commands
  pub count : length pass.made ≡ pass.begun
  pub made : (n : ℕ) → n < pass.begun
      → slice_get pass.made n ≡ Some (own_writes (suc n) (answered_lines commands answers))

-- each script's pass has
abbrev pub HaveDone : List (List Command) → List (List Answer) → Core → Type 0
HaveDone scripts reports core =
    (k : ℕ) (commands : List Command) (answers : List Answer) → slice_get scripts k ≡ Some commands
    → slice_get reports k ≡ Some answers → HasDone (pass_at core (suc k)) commands answers

-- the run is over, and it was one by these turns; no transaction is open, and the service's turns were counted,
-- up to the last number
pub record Ends (inputs : Inputs) (schedule : List ℕ) (old new : Core) (jobs : List Progress) : Type 0 where
  pub run : IsStepped inputs old.leaves schedule (outputs_of new jobs)
  pub kind : new.kind ≡ inputs.kind
  pub closed : (p : ℕ) → (pass_at new p).start ≡ None
  pub passes : HaveDone inputs.scripts (map (λ job. job.answers) jobs) new
  pub served : old.served < 2 ^ 64
      → new.served ≡ min (old.served + service_turns (length inputs.scripts) schedule run.turns) (2 ^ 64 - 1)

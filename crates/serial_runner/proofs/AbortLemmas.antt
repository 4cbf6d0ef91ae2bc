-- A job whose line at hand aborts in place of committing is under way as it was.
use Rattle.std.proofs.Common.{◌≡◌, ℕ, zero, suc, ◌≤◌, List, [], ◌∷◌, length, drop, refl, sym, ◌∙◌, ap, subst, arith, inl, inr}
use Rattle.std.specs.Prelude.{map, Option, Some, None, IfSome, slice_get, slice_set}
use Rattle.std.specs.List.{filter_map}
use Rattle.std.proofs.lemmas.List.{length-map}
use Rattle.graph_model.specs.Graph.{Graph}
use Rattle.graph_model.specs.OwnerCalls.{PassState, Core, pass_at}
use Rattle.run_model.specs.declared.command.Command.{Command}
use Rattle.run_model.specs.declared.command.Command.TheVariants as commands
use Rattle.run_model.specs.declared.answer.Answer.{Answer}
use Rattle.run_model.specs.Commands.{next_txn, begun_by}
use Rattle.run_model.specs.AnsweredLines.{made_by, own_writes, answered_from, answered_lines}
use Rattle.run_model.specs.Inputs.{Inputs}
use Rattle.run_model.specs.Run.{HasFiles}
use Rattle.run_model.specs.Jobs.{JobState, RunState, with_job}
use Rattle.run_model.specs.UnderWay.{script_of, IsUnderWay}
use Rattle.run_model.proofs.SetLemmas.{set_cases}
use Rattle.job_runner.specs.LineRunnerDeclared.reading.LineReading.{LineReading}
use Rattle.job_runner.specs.LineRunnerDeclared.reading.LineReading.TheVariants as readings
use Rattle.job_runner.specs.LineRunner.Scanning.{IsReading}
use Rattle.job_runner.specs.LineRunner.Phases.{file_of}
use Rattle.job_runner.specs.Progress.{Progress, left_of, job_at, seats, state_of}
use Rattle.job_runner.specs.Runs.{files_context, view_of_pass, AreTied, AreUnderWay}
use Rattle.job_runner.proofs.SeatLemmas.{rest_get, pass_there}
use Rattle.job_runner.proofs.KeepLemmas.{length_set}
use Rattle.job_runner.proofs.TieLemmas as ties
use Rattle.graph_model.proofs.LegalLemmas.{below_length}
use Rattle.graph_model.proofs.PlaceLemmas.{some_eq}
use Rattle.serial_model.proofs.SerialLemmas as serial
use Rattle.serial_runner.specs.SerialRuns.{aborting}

-- ---- one command in place of another that isn't answered

lines_front : (txn : ℕ) (cs : List Command) (ys : List Answer) (x : Command) → answered_from txn (slice_set cs (length ys) x) ys ≡ answered_from txn cs ys
lines_front txn [] ys x = refl
lines_front txn (c ∷ cs) [] x = refl
lines_front txn (c ∷ cs) (y ∷ ys) x = ap (λ ls. record { txn = next_txn txn c; command = c; answer = y } ∷ ls) (lines_front (next_txn txn c) cs ys x)

pub left_set : (cs : List Command) (ys : List Answer) (c : Command) (rest : List Command) (x : Command) → drop (length ys) cs ≡ c ∷ rest → drop (length ys) (slice_set cs (length ys) x) ≡ x ∷ rest
left_set [] [] c rest x e = cc
left_set [] (y ∷ ys) c rest x e = cc
left_set (d ∷ cs) [] c rest x e = ap (λ ds. x ∷ ds) (tails e)
  where
    tails : d ∷ cs ≡ c ∷ rest → cs ≡ rest
    tails e = cc
left_set (d ∷ cs) (y ∷ ys) c rest x e = left_set cs ys c rest x e

begun_set : (n : ℕ) (cs : List Command) (ys : List Answer) (rest : List Command) → drop (length ys) cs ≡ commands.Commit ∷ rest → begun_by n (slice_set cs (length ys) commands.Abort) ≡ begun_by n cs
begun_set n [] [] rest e = cc
begun_set n [] (y ∷ ys) rest e = cc
begun_set n (d ∷ cs) [] rest e = let is : d ≡ commands.Commit = heads e in ap (λ x. begun_by (next_txn n x) cs) (sym is)
  where
    heads : d ∷ cs ≡ commands.Commit ∷ rest → d ≡ commands.Commit
    heads e = cc
begun_set n (d ∷ cs) (y ∷ ys) rest e = begun_set (next_txn n d) cs ys rest e

-- one of the scripts under way
seats_here : (ps : List PassState) (js : List Progress) (k : ℕ) (pass : PassState) (job : Progress) → slice_get ps k ≡ Some pass → seats ps (slice_set js k job) ≡ slice_set (seats ps js) k (job_at pass job)
seats_here [] js k pass job at = cc
seats_here (q ∷ ps) [] k pass job at = refl
seats_here (q ∷ ps) (u ∷ js) zero pass job at = let same : q ≡ pass = some_eq q pass at in ap (λ p. job_at p job ∷ seats ps js) same
seats_here (q ∷ ps) (u ∷ js) (suc k) pass job at = ap (λ xs. job_at q u ∷ xs) (seats_here ps js k pass job at)

-- a line that commits reads nothing
reads_none : (g : Graph) (reading : Option LineReading) (r : Command) → IfSome reading (IsReading g commands.Commit) → IfSome reading (IsReading g r)
reads_none g None r is = tt
reads_none g (Some (readings.Scan scan)) r is = absurd is.result
reads_none g (Some (readings.Replay kept turns)) r is = absurd is.1

module _ (inputs : Inputs) (core : Core) (jobs : List Progress) (u : AreUnderWay inputs core jobs) (k : ℕ) (job : Progress) (there : slice_get jobs k ≡ Some job)
    (rest : List Command) (left : left_of job ≡ commands.Commit ∷ rest) where
  abbrev pass : PassState
  pass = pass_at core (suc k)

  abbrev j : JobState
  j = job_at pass job

  seat : slice_get (state_of core jobs).jobs k ≡ Some j
  seat = ties.seat inputs core jobs u k job there

  abbrev pub jobs' : List Progress
  jobs' = slice_set jobs k (aborting job)

  abbrev pub state' : RunState
  state' = with_job (state_of core jobs) k (record j { left = commands.Abort ∷ rest })

  lines_same : answered_lines (aborting job).commands (aborting job).answers ≡ answered_lines job.commands job.answers
  lines_same = lines_front 0 job.commands job.answers commands.Abort

  job_is : job_at pass (aborting job) ≡ record j { left = commands.Abort ∷ rest }
  job_is = λ i. record {
    lines = lines_same i;
    left = left_set job.commands job.answers commands.Commit rest commands.Abort left i;
    taken = j.taken;
    begun = j.begun;
    start = j.start;
    own = j.own;
    skipping = j.skipping;
  }

  pub state_is : state_of core jobs' ≡ state'
  state_is =
      let here : slice_get (drop 1 core.passes) k ≡ Some pass = rest_get core.passes k ∙ pass_there core.passes (suc k) (ties.inside inputs core jobs u k job there) in
      (λ i. record { journal = core.journal; jobs = seats_here (drop 1 core.passes) jobs k pass (aborting job) here i })
      ∙ (λ i. record { journal = core.journal; jobs = slice_set (seats (drop 1 core.passes) jobs) k (job_is i) })

  abbrev pub inputs' : Inputs
  inputs' = record inputs { scripts = map script_of state'.jobs }

  aborting_tied : AreTied core pass k (aborting job)
  aborting_tied = let tied = u.each k job there in record {
    number = tied.number;
    answered = (let same = length_set job.commands (length job.answers) commands.Abort in let le = tied.answered in omega (arith, same, le));
    phase_is = tied.phase_is;
    wrote = tied.wrote ∙ ap (filter_map made_by) (sym lines_same);
    counted = tied.counted;
    by_txn = λ n lt. tied.by_txn n lt ∙ ap (λ ls. Some (own_writes (suc n) ls)) (sym lines_same);
    last = tied.last;
    begins = ap (begun_by pass.begun) (left_set job.commands job.answers commands.Commit rest commands.Abort left)
        ∙ sym (ap (begun_by pass.begun) left) ∙ tied.begins ∙ sym (begun_set 0 job.commands job.answers rest left);
    room = subst (λ cs. begun_by pass.begun cs ≤ pass.allowed) (sym (left_set job.commands job.answers commands.Commit rest commands.Abort left))
        (subst (λ cs. begun_by pass.begun cs ≤ pass.allowed) left tied.room);
    reads = λ c more e. reads_none (view_of_pass core pass) job.reading c (tied.reads commands.Commit rest left);
    small = tied.small;
    kept = tied.kept;
    files = subst (λ ls. HasFiles (files_context core) [] ls (map file_of job.tables)) (sym lines_same) tied.files;
  }

  pub abort_under_way : AreUnderWay inputs' core jobs'
  abort_under_way = record {
    given = serial.abort_given inputs core.leaves (state_of core jobs) u.state k j seat rest left u.given;
    kind = u.kind;
    state = subst (IsUnderWay inputs' core.leaves) (sym state_is) (serial.abort_under inputs core.leaves (state_of core jobs) u.state k j seat rest left);
    loaded = u.loaded;
    closed = u.closed;
    passes = (let same = length_set jobs k (aborting job) in let lt = u.passes in omega (arith, same, lt));
    count = length_set jobs k (aborting job) ∙ u.count
        ∙ sym (length-map state'.jobs script_of ∙ length_set (state_of core jobs).jobs k (record j { left = commands.Abort ∷ rest }) ∙ sym (length-map (state_of core jobs).jobs script_of) ∙ ap length u.state.whole);
    unused = λ i le. u.unused i (let same = length_set jobs k (aborting job) in omega (arith, same, le));
    each = λ i x at. elim (set_cases jobs k i (aborting job) x (below_length jobs k job there) at) as (λ _. AreTied core (pass_at core (suc i)) i x) [
      | inl p ↦ subst (λ y. AreTied core (pass_at core (suc i)) i y) p.1 (subst (λ n. AreTied core (pass_at core (suc n)) n (aborting job)) (sym p.0) aborting_tied)
      | inr p ↦ u.each i x p.1
    ];
  }

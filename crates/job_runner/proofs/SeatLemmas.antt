-- A turn of a job is a turn of the state that the engine and the jobs have.
use Rattle.std.proofs.Common.{◌≡◌, ℕ, zero, suc, ◌+◌, ◌<◌, ◌≤◌, List, [], ◌∷◌, ◌++◌, length, drop, refl, sym, ◌∙◌, ap, arith, cond}
use Rattle.std.specs.Prelude.{Bool, true, false, ◌&&◌, nat_lt, Option, Some, None, unwrap_or, slice_get, slice_set}
use Rattle.std.specs.Option.{option_map}
use Rattle.graph_model.specs.declared.write.Kind.{Kind}
use Rattle.graph_model.specs.declared.write.Write.{Write}
use Rattle.graph_model.specs.declared.journal.Commit.{Commit}
use Rattle.graph_model.specs.declared.refusal.Refusal.{Refusal}
use Rattle.graph_model.specs.declared.refusal.Cause.{Cause}
use Rattle.graph_model.specs.Conflict.{OpenTxn, conflict}
use Rattle.graph_model.specs.History.{view}
use Rattle.graph_model.specs.Passes.{listed_if, open_txns_of}
use Rattle.graph_model.specs.Inserted.{inserts}
use Rattle.graph_model.specs.Refused.{refused}
use Rattle.graph_model.specs.Transactions.{Running}
use Rattle.graph_model.specs.OwnerCalls as owner
use Rattle.graph_model.specs.OwnerCalls.{PassState, Core, no_pass, pass_at, current, with_current}
use Rattle.run_model.specs.declared.command.Command.{Command}
use Rattle.run_model.specs.declared.answer.Answer.{Answer}
use Rattle.run_model.specs.declared.command.Command.TheVariants as commands
use Rattle.run_model.specs.Commands.{next_txn}
use Rattle.run_model.specs.AnsweredLines.{answered_from, answered_lines}
use Rattle.run_model.specs.declared.answer.Answer.TheVariants as answers_of
use Rattle.run_model.specs.Answering.{refusal_answer, query_answer, kernel_answer}
use Rattle.run_model.specs.Run.{txn_name}
use Rattle.run_model.specs.Jobs as jobs_of
use Rattle.run_model.specs.Jobs.{JobState, RunState, LineResult, skips, write_result, live_result, line_result, scanned, turns_of, answered_job, with_job, line_turn, job_turn, turn_at_place, turn, is_empty}
use Rattle.run_model.specs.UnderWay.{AreNumbered}
use Rattle.line_runner.specs.declared.answering.LineAnswer.{LineAnswer}
use Rattle.line_runner.specs.declared.answering.LineTurn.TheVariants.{Scanning, Answering}
use Rattle.line_runner.specs.declared.phase.Phase.TheVariants.{Skipping}
use Rattle.line_runner.specs.declared.kept.KeptImage.{KeptImage}
use Rattle.line_runner.specs.declared.reading.LineReading.{LineReading}
use Rattle.line_runner.specs.Scanning.{taken_of}
use Rattle.line_runner.specs.Phases.{is_skipping, phase_at, phase_behind}
use Rattle.line_runner.specs.Lines.{seat, result_here, pass_behind, goes_on_here, ScansHere, AnswersHere}
use Rattle.job_runner.specs.Progress.{Progress, left_of, behind, job_at, seats, state_of}
use Rattle.line_runner.proofs.CoreLemmas.{put_back}

-- ---- lists

pub rest_get : {X : Type 0} (xs : List X) (k : ℕ) → slice_get (drop 1 xs) k ≡ slice_get xs (suc k)
rest_get [] k = refl
rest_get (x ∷ xs) k = refl

rest_set : {X : Type 0} (xs : List X) (k : ℕ) (x : X) → drop 1 (slice_set xs (suc k) x) ≡ slice_set (drop 1 xs) k x
rest_set [] k x = refl
rest_set (y ∷ xs) k x = refl

pub pass_there : (ps : List PassState) (k : ℕ) → k < length ps → slice_get ps k ≡ Some (unwrap_or (slice_get ps k) no_pass)
pass_there [] k lt = absurd (omega arith)
pass_there (p ∷ ps) zero lt = refl
pass_there (p ∷ ps) (suc k) lt = pass_there ps k (omega arith)

-- ---- jobs and their passes

pub seats_get : (ps : List PassState) (js : List Progress) (k : ℕ) (pass : PassState) (job : Progress) → slice_get ps k ≡ Some pass → slice_get js k ≡ Some job → slice_get (seats ps js) k ≡ Some (job_at pass job)
seats_get [] js k pass job e f = cc
seats_get (q ∷ ps) [] k pass job e f = cc
seats_get (q ∷ ps) (u ∷ js) zero pass job e f = let a : q ≡ pass = pass_of q pass e in let b : u ≡ job = job_of u job f in (λ i. Some (job_at (a i) (b i)))
  where
    pass_of : (x y : PassState) → ◌≡◌ {A = Option PassState} (Some x) (Some y) → x ≡ y
    pass_of x y e = cc

    job_of : (x y : Progress) → ◌≡◌ {A = Option Progress} (Some x) (Some y) → x ≡ y
    job_of x y e = cc
seats_get (q ∷ ps) (u ∷ js) (suc k) pass job e f = seats_get ps js k pass job e f

seats_set : (ps : List PassState) (js : List Progress) (k : ℕ) (pass : PassState) (job : Progress) → seats (slice_set ps k pass) (slice_set js k job) ≡ slice_set (seats ps js) k (job_at pass job)
seats_set [] js k pass job = refl
seats_set (q ∷ ps) [] zero pass job = refl
seats_set (q ∷ ps) [] (suc k) pass job = refl
seats_set (q ∷ ps) (u ∷ js) zero pass job = refl
seats_set (q ∷ ps) (u ∷ js) (suc k) pass job = ap (λ xs. job_at q u ∷ xs) (seats_set ps js k pass job)

-- passes with nothing open are in no list of open transactions
none_open : (from : ℕ) (ps : List PassState) → ((i : ℕ) (p : PassState) → slice_get ps i ≡ Some p → p.start ≡ None) → open_txns_of (λ (p : PassState). p.begun) owner.running_of from ps ≡ []
none_open from [] closed = refl
none_open from (p ∷ ps) closed =
    ap (λ s. listed_if (running_at s) (record { job = from; number = p.begun }) (open_txns_of (λ (p : PassState). p.begun) owner.running_of (from + 1) ps)) (closed 0 p refl)
    ∙ none_open (from + 1) ps (λ i q e. closed (suc i) q e)
  where
    running_at : Option ℕ → Option Running
    running_at s = option_map (λ start. record { start = start; writes = p.own }) s

-- the engine's open transactions are those of the jobs, where no other pass has one
pub opens_same : (from : ℕ) (ps : List PassState) (js : List Progress) → ((i : ℕ) (p : PassState) → slice_get ps i ≡ Some p → length js ≤ i → p.start ≡ None)
    → open_txns_of (λ (p : PassState). p.begun) owner.running_of from ps ≡ open_txns_of (λ (j : JobState). j.begun) jobs_of.running_of from (seats ps js)
opens_same from [] js closed = refl
opens_same from (p ∷ ps) [] closed = none_open from (p ∷ ps) (λ i q e. closed i q e (omega arith))
opens_same from (p ∷ ps) (job ∷ js) closed = ap (listed_if (owner.running_of p) (record { job = from; number = p.begun })) (opens_same (from + 1) ps js (λ i q e le. closed (suc i) q e (omega (arith, le))))

-- ---- what a line does depends on the transaction alone

module _ (kind : Kind) (journal : List Commit) (txns : List OpenTxn) (number : ℕ) (full : Bool) (i j : JobState) (begun : i.begun ≡ j.begun) (start : i.start ≡ j.start) (own : i.own ≡ j.own) where
  write_same : (w : Write) (x : Option Refusal) (y : Option Cause) → write_result i w x y full ≡ write_result j w x y full
  write_same w (Some refusal) y = λ t. record { answer = refusal_answer refusal; start = start t; own = own t; skipping = false; commits = [] }
  write_same w None (Some cause) = refl
  write_same w None None = λ t. cond (full && inserts w) (jobs_of.stops answers_of.Full)
      (record { answer = answers_of.Done; start = start t; own = own t ++ w ∷ []; skipping = false; commits = [] })

  live_same : (r : Command) → live_result kind journal txns number i full r ≡ live_result kind journal txns number j full r
  live_same commands.Begin = ap (λ n. jobs_of.begins (txn_name number (n + 1)) (length journal)) begun
  live_same commands.Commit = λ t. jobs_of.commit_result journal (txn_name number (begun t)) (unwrap_or (start t) 0) (own t)
  live_same commands.Abort = refl
  live_same (commands.Write w) =
      (λ t. write_result i w (refused (view kind journal (unwrap_or (start t) 0) (own t)) w) (conflict kind journal txns (txn_name number (begun t)) (unwrap_or (start t) 0) w) full)
      ∙ write_same w _ _
  live_same (commands.Read query) = λ t. record { answer = query_answer kind (view kind journal (unwrap_or (start t) 0) (own t)) query; start = start t; own = own t; skipping = false; commits = [] }
  live_same (commands.Run kernel file) = λ t. record { answer = kernel_answer (view kind journal (unwrap_or (start t) 0) (own t)) kernel; start = start t; own = own t; skipping = false; commits = [] }

  pub result_same : i.skipping ≡ j.skipping → (r : Command) → line_result kind journal txns number i full r ≡ line_result kind journal txns number j full r
  result_same skipping r = λ t. cond (skipping t) (skips r) (live_same r t)

-- ---- one line more

pub heads : (x c : Command) (cs rest : List Command) → x ∷ cs ≡ c ∷ rest → x ≡ c
heads x c cs rest e = cc

tails : (x c : Command) (cs rest : List Command) → x ∷ cs ≡ c ∷ rest → cs ≡ rest
tails x c cs rest e = cc

none_answered : (txn : ℕ) (cs : List Command) → answered_from txn cs [] ≡ []
none_answered txn [] = refl
none_answered txn (c ∷ cs) = refl

pub lines_more : (txn : ℕ) (cs : List Command) (ys : List Answer) (latest : ℕ) (c : Command) (rest : List Command) (a : Answer) → AreNumbered txn (answered_from txn cs ys) latest → drop (length ys) cs ≡ c ∷ rest
    → answered_from txn cs (ys ++ a ∷ []) ≡ answered_from txn cs ys ++ record { txn = next_txn latest c; command = c; answer = a } ∷ []
lines_more txn [] [] latest c rest a are e = cc
lines_more txn [] (b ∷ ys) latest c rest a are e = cc
lines_more txn (x ∷ cs) [] latest c rest a are e =
    let same : x ≡ c = heads x c cs rest e in
    ap (λ ls. record { txn = next_txn txn x; command = x; answer = a } ∷ ls) (none_answered (next_txn txn x) cs) ∙ (λ i. record { txn = next_txn (are i) (same i); command = same i; answer = a } ∷ [])
lines_more txn (x ∷ cs) (b ∷ ys) latest c rest a are e = ap (λ ls. record { txn = next_txn txn x; command = x; answer = b } ∷ ls) (lines_more (next_txn txn x) cs ys latest c rest a are.1 e)

pub left_more : (cs : List Command) (ys : List Answer) (c : Command) (rest : List Command) (a : Answer) → drop (length ys) cs ≡ c ∷ rest → drop (length (ys ++ a ∷ [])) cs ≡ rest
left_more [] [] c rest a e = cc
left_more [] (b ∷ ys) c rest a e = cc
left_more (x ∷ cs) [] c rest a e = tails x c cs rest e
left_more (x ∷ cs) (b ∷ ys) c rest a e = left_more cs ys c rest a e

-- whether lines are skipped is what the phase says
pub skipping_behind : (result : LineResult) → is_skipping (phase_behind result) ≡ result.skipping
skipping_behind result = by_skipping result.skipping result.start
  where
    by_skipping : (b : Bool) (s : Option ℕ) → is_skipping (cond b Skipping (phase_at s)) ≡ b
    by_skipping true s = refl
    by_skipping false None = refl
    by_skipping false (Some start) = refl

-- ---- A TURN IS A TURN

-- nothing is open but of the jobs
pub record AreClosed (core : Core) (count : ℕ) : Type 0 where
  pub service : (pass_at core 0).start ≡ None
  pub others : (i : ℕ) → count ≤ i → (pass_at core (suc i)).start ≡ None

module _ (core : Core) (jobs : List Progress) (closed : AreClosed core (length jobs)) where
  rest_closed : (i : ℕ) (p : PassState) → slice_get (drop 1 core.passes) i ≡ Some p → length jobs ≤ i → p.start ≡ None
  rest_closed i p at le = ap (λ x. (unwrap_or x no_pass).start) (sym (sym (rest_get core.passes i) ∙ at)) ∙ closed.others i le

  -- the open transactions are the jobs'
  pub txns_same : owner.open_txns core ≡ jobs_of.open_txns (state_of core jobs).jobs
  txns_same = by_passes core.passes refl
    where
      by_passes : (ps : List PassState) → core.passes ≡ ps → owner.open_txns core ≡ jobs_of.open_txns (state_of core jobs).jobs
      by_passes [] e = (λ i. open_txns_of (λ (p : PassState). p.begun) owner.running_of 0 (e i)) ∙ sym (λ i. open_txns_of (λ (j : JobState). j.begun) jobs_of.running_of 1 (seats (drop 1 (e i)) jobs))
      by_passes (p ∷ ps) e =
          (λ i. open_txns_of (λ (p : PassState). p.begun) owner.running_of 0 (e i))
          ∙ first p ps (ap (λ xs. (unwrap_or (slice_get xs 0) no_pass).start) (sym e) ∙ closed.service)
          ∙ ap (open_txns_of (λ (p : PassState). p.begun) owner.running_of 1) (sym (ap (drop 1) e))
          ∙ opens_same 1 (drop 1 core.passes) jobs rest_closed
        where
          first : (p : PassState) (ps : List PassState) → p.start ≡ None → open_txns_of (λ (p : PassState). p.begun) owner.running_of 0 (p ∷ ps) ≡ open_txns_of (λ (p : PassState). p.begun) owner.running_of 1 ps
          first p ps e = ap (λ s. listed_if (option_map (λ start. record { start = start; writes = p.own }) s) (record { job = 0; number = p.begun }) (open_txns_of (λ (p : PassState). p.begun) owner.running_of 1 ps)) e

  module _ (k : ℕ) (job : Progress) (there : slice_get jobs k ≡ Some job) (chosen : core.selected ≡ suc k) (inside : core.selected < length core.passes) where
    -- the script of the job, as the state has it
    abbrev pub j : JobState
    j = job_at (current core) job

    pub seat_there : slice_get (state_of core jobs).jobs k ≡ Some j
    seat_there = seats_get (drop 1 core.passes) jobs k (current core) job (rest_get core.passes k ∙ ap (slice_get core.passes) (sym chosen) ∙ pass_there core.passes core.selected inside) there

    set_state : (state : PassState) (next : Progress) → seats (drop 1 (slice_set core.passes core.selected state)) (slice_set jobs k next) ≡ slice_set (state_of core jobs).jobs k (job_at state next)
    set_state state next =
        (λ i. seats (drop 1 (slice_set core.passes (chosen i) state)) (slice_set jobs k next))
        ∙ ap (λ ps. seats ps (slice_set jobs k next)) (rest_set core.passes k state)
        ∙ seats_set (drop 1 core.passes) jobs k state next

    turn_is : (full : Bool) (c : Command) (rest : List Command) → left_of job ≡ c ∷ rest → turn core.kind (state_of core jobs) (suc k) full ≡ job_turn core.kind (state_of core jobs) k full j (c ∷ rest)
    turn_is full c rest cons = ap (turn_at_place core.kind (state_of core jobs) k full) seat_there ∙ ap (job_turn core.kind (state_of core jobs) k full j) cons

    -- a portion of rows
    pub scan_is_turn : (full : Bool) (c : Command) (rest : List Command) → left_of job ≡ c ∷ rest → (next : LineReading) (image : Option KeptImage) (new : Core) → ScansHere core job.phase job.reading c next new
        → state_of new (slice_set jobs k (behind job image (Scanning next))) ≡ turn core.kind (state_of core jobs) (suc k) full
    scan_is_turn full c rest cons next image new scans =
        let calm : is_skipping job.phase ≡ false = ap is_skipping scans.further.is_open in
        let goes : nat_lt (j.taken + 1) (turns_of core.kind core.journal j c) ≡ true = ap (λ b. goes_on_here core b (taken_of job.reading) c) calm ∙ scans.further.more in
        ap (λ x. state_of x (slice_set jobs k (behind job image (Scanning next)))) scans.same
        ∙ (λ i. record { journal = core.journal; jobs = seats (drop 1 (sym (put_back core.passes core.selected inside) i)) (slice_set jobs k (behind job image (Scanning next))) })
        ∙ (λ i. record { journal = core.journal; jobs = set_state (current core) (behind job image (Scanning next)) i })
        ∙ (λ i. with_job (state_of core jobs) k (record j { taken = scans.further.taken i }))
        ∙ sym (turn_is full c rest cons ∙ ap (λ b. cond b (with_job (state_of core jobs) k (record j { taken = j.taken + 1 })) (line_turn core.kind (state_of core jobs) k full j c rest)) goes)

    -- a line
    pub answer_is_turn : (c : Command) (rest : List Command) → left_of job ≡ c ∷ rest → AreNumbered 0 (answered_lines job.commands job.answers) (current core).begun → (given : LineAnswer) (image : Option KeptImage) (new : Core)
        → (answers : AnswersHere core job.phase job.reading c given new) → state_of new (slice_set jobs k (behind job image (Answering given))) ≡ turn core.kind (state_of core jobs) (suc k) answers.does.full
    answer_is_turn c rest cons numbered given image new answers =
        let does = answers.does in
        let full : Bool = does.full in
        let r : Command = c in
        let here : LineResult = result_here core (is_skipping job.phase) full r in
        let next : Progress = behind job image (Answering given) in
        let result : LineResult = line_result core.kind core.journal (jobs_of.open_txns (state_of core jobs).jobs) (k + 1) j full r in
        let same : here ≡ result =
        (let number : core.selected ≡ k + 1 = chosen ∙ one_more k in λ i. line_result core.kind core.journal (txns_same i) (number i) (seat core (is_skipping job.phase)) full r)
        ∙ result_same core.kind core.journal (jobs_of.open_txns (state_of core jobs).jobs) (k + 1) full (seat core (is_skipping job.phase)) j refl refl refl refl r in
        ap (λ x. state_of x (slice_set jobs k next)) does.core
        ∙ (λ i. record { journal = core.journal ++ here.commits; jobs = set_state (pass_behind (current core) r here does.sighted does.filled) next i })
        ∙ (λ i. record {
          journal = core.journal ++ here.commits;
          jobs = slice_set (state_of core jobs).jobs k (record {
            lines = (lines_more 0 job.commands job.answers (current core).begun c rest given.answer numbered cons ∙ ap (λ a. answered_lines job.commands job.answers ++ record { txn = next_txn (current core).begun r; command = c; answer = a } ∷ []) does.answer) i;
            left = left_more job.commands job.answers c rest given.answer cons i;
            taken = 0;
            begun = next_txn (current core).begun r;
            start = here.start;
            own = here.own;
            skipping = (ap is_skipping does.phase ∙ skipping_behind here) i;
          });
        })
        ∙ (λ i. record { journal = core.journal ++ (same i).commits; jobs = slice_set (state_of core jobs).jobs k (answered_job j c rest (same i)) })
        ∙ sym (turn_is full c rest cons ∙ ap (λ b. cond b (with_job (state_of core jobs) k (record j { taken = j.taken + 1 })) (line_turn core.kind (state_of core jobs) k full j c rest)) answers.last)
      where
        one_more : (k : ℕ) → suc k ≡ k + 1
        one_more k = omega arith

    -- a script that is over
    pub over_is_turn : (full : Bool) → left_of job ≡ [] → state_of core jobs ≡ turn core.kind (state_of core jobs) (suc k) full
    over_is_turn full none = sym (ap (turn_at_place core.kind (state_of core jobs) k full) seat_there ∙ ap (job_turn core.kind (state_of core jobs) k full j) none)

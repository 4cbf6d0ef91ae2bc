-- The run from its first turn to its end.
use Rattle.std.proofs.Common.{inl, inr, ◌≡◌, ℕ, zero, suc, ◌+◌, ◌-◌, ◌^◌, ◌<◌, ◌≤◌, List, [], ◌∷◌, ◌++◌, length, drop, refl, sym, ◌∙◌, ap, subst, arith, cond, append_assoc}
use Rattle.std.specs.Prelude.{◌⊎◌, min, Bool, true, false, ◌||◌, ◌&&◌, ◌==◌, not, map, Option, None, Some, is_some, unwrap_or, slice_get, get_or}
use Rattle.std.proofs.lemmas.Option.{slice_get_cases}
use Rattle.std.specs.List.{flat_map, filter_map, list_all}
use Rattle.std.proofs.lemmas.Bool.Decides.{nat_tests}
use Rattle.std.proofs.lemmas.List.{append-nil, length-map}
use Rattle.graph_model.specs.declared.journal.Commit.{Commit}
use Rattle.graph_model.specs.History.{view}
use Rattle.graph_model.specs.OwnerCalls.{PassState, Core, no_pass, pass_at, ServesHere, one_more}
use Rattle.graph_model.proofs.TestLemmas.{self_eq}
use Rattle.run_model.specs.declared.command.Command.{Command}
use Rattle.run_model.specs.declared.answer.Answer.{Answer}
use Rattle.run_model.specs.Commands.{next_txn, begun_by, IsScript}
use Rattle.run_model.specs.AnsweredLines.{AnsweredLine, made_by, answered_from, answered_lines}
use Rattle.run_model.specs.Inputs.{Inputs}
use Rattle.run_model.specs.Run.{HasFiles, MayFill}
use Rattle.run_model.specs.Jobs.{JobState, new_job, load_journal, first_state, lines_so_far, turn, is_empty, has_ended}
use Rattle.run_model.specs.Stepped.{rotated, turn_at, service_turns, setting_of, IsReached, context_in}
use Rattle.run_model.specs.UnderWay.{script_of, IsUnderWay}
use Rattle.run_model.proofs.SteppedLemmas.{first_is}
use Rattle.run_model.proofs.SetLemmas.{get_map, map_get, sum_cons}
use Rattle.line_runner.specs.declared.phase.Phase.{Phase}
use Rattle.line_runner.specs.declared.phase.Phase.TheVariants.{Between, Open, Skipping, GivenUp}
use Rattle.line_runner.specs.Phases.{IsPhase, file_of}
use Rattle.job_runner.specs.Progress.{Progress, new_progress, left_of, has_given_up, is_over, job_at, seats, state_of}
use Rattle.job_runner.specs.Runs.{new_jobs, IsUnused, AreNew, files_context, AreTied, AreUnderWay, under_way, Turns, HasDone, HaveDone, Ends}
use Rattle.job_runner.proofs.FileLemmas.{files_to}
use Rattle.job_runner.proofs.SeatLemmas.{rest_get}
use Rattle.job_runner.proofs.TieLemmas as ties

-- ---- the service

-- a turn of the service changes no script
pub serves : (core : Core) (jobs : List Progress) (new : Core) → ServesHere core new → Turns core jobs 0 false new jobs
serves core jobs new is = subst (λ x. Turns core jobs 0 false x jobs) (sym is) (record {
  full = false;
  filling = λ inputs u e. absurd (let never : false ≡ true = e in cc);
  state = refl;
  keeps = λ inputs u. record { given = u.given; kind = u.kind; state = u.state; loaded = u.loaded; closed = u.closed; passes = u.passes; count = u.count; unused = u.unused; each = λ k job at. same k job (u.each k job at) };
  kind = refl;
  leaves = refl;
  served = refl;
  journal = ([], sym (append-nil core.journal));
  left = omega arith;
})
  where
    same : (k : ℕ) (job : Progress) → AreTied core (pass_at core (suc k)) k job → AreTied (record core { served = one_more core.served }) (pass_at core (suc k)) k job
    same k job t = record { number = t.number; answered = t.answered; phase_is = t.phase_is; wrote = t.wrote; counted = t.counted; by_txn = t.by_txn; last = t.last; begins = t.begins; room = t.room; reads = t.reads; small = t.small; kept = t.kept; files = t.files }

-- ---- the beginning

none_answered : (txn : ℕ) (cs : List Command) → answered_from txn cs [] ≡ []
none_answered txn [] = refl
none_answered txn (c ∷ cs) = refl

new_count : (n : ℕ) (scripts : List (List Command)) → length (new_jobs n scripts) ≡ length scripts
new_count n [] = refl
new_count n (cs ∷ scripts) = ap suc (new_count (n + 1) scripts)

new_get : (n : ℕ) (scripts : List (List Command)) (k : ℕ) (job : Progress) → slice_get (new_jobs n scripts) k ≡ Some job → (cs : List Command) × (slice_get scripts k ≡ Some cs) × (job ≡ new_progress (n + k) cs)
new_get n [] k job e = cc
new_get n (cs ∷ scripts) zero job e = let same : new_progress n cs ≡ job = cc in let number : n ≡ n + 0 = omega arith in (cs, refl, sym same ∙ ap (λ m. new_progress m cs) number)
new_get n (cs ∷ scripts) (suc k) job e =
    let rest = new_get (n + 1) scripts k job e in
    let number : n + 1 + k ≡ n + suc k = omega arith in
    (rest.0, rest.1, rest.2 ∙ ap (λ m. new_progress m rest.0) number)

new_seats : (n : ℕ) (ps : List PassState) (scripts : List (List Command)) → length scripts ≤ length ps → ((k : ℕ) (p : PassState) → slice_get ps k ≡ Some p → IsUnused p) → seats ps (new_jobs n scripts) ≡ map new_job scripts
new_seats n [] [] le unused = refl
new_seats n [] (cs ∷ scripts) le unused = absurd (omega (arith, le))
new_seats n (p ∷ ps) [] le unused = refl
new_seats n (p ∷ ps) (cs ∷ scripts) le unused =
    let none = unused 0 p refl in
    λ i. record { lines = none_answered 0 cs i; left = cs; taken = 0; begun = none.begun i; start = none.closed i; own = none.own i; skipping = false }
    ∷ new_seats (n + 1) ps scripts (omega (arith, le)) (λ k q e. unused (suc k) q e) i

module _ (inputs : Inputs) (core : Core) (jobs : List Progress) (new : AreNew inputs core jobs) where
  count_is : length jobs ≡ length inputs.scripts
  count_is = ap length new.jobs_are ∙ new_count 1 inputs.scripts

  pub first_state_is : state_of core jobs ≡ first_state inputs
  first_state_is =
      (λ i. record { journal = new.journal i; jobs = seats (drop 1 core.passes) (new.jobs_are i) })
      ∙ (λ i. record {
        journal = load_journal inputs.load;
        jobs = new_seats 1 (drop 1 core.passes) inputs.scripts (enough core.passes (length inputs.scripts) (omega (arith, new.passes, count_is)))
            (λ k p e. subst IsUnused (ap (λ x. unwrap_or x no_pass) (sym (rest_get core.passes k) ∙ e)) (new.unused k)) i;
      })
    where
      enough : (ps : List PassState) (n : ℕ) → n < length ps → n ≤ length (drop 1 ps)
      enough [] n lt = absurd (omega (arith, lt))
      enough (p ∷ ps) n lt = omega (arith, lt)

  new_tied : (k : ℕ) (job : Progress) → slice_get jobs k ≡ Some job → AreTied core (pass_at core (suc k)) k job
  new_tied k job at =
      let job_is = new_get 1 inputs.scripts k job (ap (λ js. slice_get js k) (sym new.jobs_are) ∙ at) in
      subst (AreTied core (pass_at core (suc k)) k) (sym job_is.2) (first job_is.0 job_is.1 (new.unused k))
    where
      first : (cs : List Command) → slice_get inputs.scripts k ≡ Some cs → IsUnused (pass_at core (suc k)) → AreTied core (pass_at core (suc k)) k (new_progress (1 + k) cs)
      first cs there none = record {
        number = omega arith;
        answered = omega arith;
        phase_is = none.closed;
        wrote = ap (flat_map (λ ws. ws)) none.made ∙ ap (filter_map made_by) (sym (none_answered 0 cs));
        counted = ap length none.made ∙ sym none.begun;
        by_txn = λ n lt. absurd (let zero_begun : (pass_at core (suc k)).begun ≡ 0 = none.begun in omega (arith, lt, zero_begun));
        last = λ opened. absurd (let never : false ≡ true = sym (ap is_some none.closed) ∙ opened in cc);
        begins = ap (λ n. begun_by n cs) none.begun;
        room = subst (λ n. begun_by n cs ≤ (pass_at core (suc k)).allowed) (sym none.begun) (new.room k cs there);
        reads = λ c rest e. tt;
        small = omega arith;
        kept = tt;
        files = subst (λ ls. HasFiles (files_context core) [] ls []) (sym (none_answered 0 cs)) refl;
      }

  pub new_under_way : AreUnderWay inputs core jobs
  new_under_way = record {
    given = new.given;
    kind = new.kind;
    state = subst (IsUnderWay inputs core.leaves) (sym first_state_is) (first_is inputs core.leaves new.given);
    loaded = new.loaded;
    closed = new.closed;
    passes = new.passes;
    count = count_is;
    unused = λ k le. new.unused k;
    each = new_tied;
  }

-- ---- how many jobs are under way

going_over : (job : Progress) (start : Option ℕ) → IsPhase job.phase start → is_over job ≡ is_empty (left_of job)
going_over job start is = by_phase job.phase is
  where
    by_phase : (phase : Phase) → IsPhase phase start → (has_given_up phase || is_empty (left_of job)) ≡ is_empty (left_of job)
    by_phase Between is = refl
    by_phase Open is = refl
    by_phase Skipping is = refl
    by_phase GivenUp is = absurd is

-- all scripts of a list have ended where none of its jobs is under way, and else not
ended_seats : (ps : List PassState) (js : List Progress) → length js ≤ length ps → ((k : ℕ) (job : Progress) → slice_get js k ≡ Some job → is_over job ≡ is_empty (left_of job))
    → list_all (λ (j : JobState). is_empty j.left) (seats ps js) ≡ (under_way js == 0)
ended_seats [] [] le over = sym (self_eq 0)
ended_seats [] (job ∷ js) le over = absurd (omega (arith, le))
ended_seats (p ∷ ps) [] le over = sym (self_eq 0)
ended_seats (p ∷ ps) (job ∷ js) le over =
    (λ i. sym (over 0 job refl) i && ended_seats ps js (omega (arith, le)) (λ k q e. over (suc k) q e) i)
    ∙ by_over (is_over job) (under_way js)
    ∙ ap (λ n. n == 0) (sym (sum_cons (λ j. cond (not (is_over j)) 1 0) job js))
  where
    by_over : (b : Bool) (n : ℕ) → (b && (n == 0)) ≡ ((cond (not b) 1 0 + n) == 0)
    by_over true n = let same : 0 + n ≡ n = omega arith in ap (λ m. m == 0) (sym same)
    by_over false n = grind (arith, nat_tests)

pub ended_is : (inputs : Inputs) (core : Core) (jobs : List Progress) → AreUnderWay inputs core jobs → has_ended (state_of core jobs) ≡ (under_way jobs == 0)
ended_is inputs core jobs u = ended_seats (drop 1 core.passes) jobs (enough core.passes (length jobs) u.passes)
    (λ k job at. going_over job (pass_at core (suc k)).start (u.each k job at).phase_is)
  where
    enough : (ps : List PassState) (n : ℕ) → n < length ps → n ≤ length (drop 1 ps)
    enough [] n lt = absurd (omega (arith, lt))
    enough (p ∷ ps) n lt = omega (arith, lt)

-- ---- from turn to turn

-- the run has taken n turns
pub record IsAt (inputs : Inputs) (schedule : List ℕ) (first : Core) (n : ℕ) (core : Core) (jobs : List Progress) : Type 0 where
  pub state : AreUnderWay inputs core jobs
  pub reached : IsReached (setting_of inputs first.leaves schedule) (first_state inputs) n (state_of core jobs)
  pub leaves : core.leaves ≡ first.leaves
  pub served : first.served < 2 ^ 64 → core.served ≡ min (first.served + service_turns (length inputs.scripts) schedule n) (2 ^ 64 - 1)
  pub journal : (rest : List Commit) × (core.journal ≡ first.journal ++ rest)

pub at_first : (inputs : Inputs) (schedule : List ℕ) (core : Core) (jobs : List Progress) → AreNew inputs core jobs → IsAt inputs schedule core 0 core jobs
at_first inputs schedule core jobs new = record {
  state = new_under_way inputs core jobs new;
  reached = first_state_is inputs core jobs new;
  leaves = refl;
  served = λ small. omega (arith, small);
  journal = ([], sym (append-nil core.journal));
}

pub at_next : (inputs : Inputs) (schedule : List ℕ) (first : Core) (n : ℕ) (core : Core) (jobs : List Progress) → IsAt inputs schedule first n core jobs
    → (number : ℕ) → turn_at (length inputs.scripts) schedule n ≡ number → 0 < under_way jobs
    → (ended : Bool) (new : Core) (next : List Progress) → Turns core jobs number ended new next → IsAt inputs schedule first (suc n) new next
at_next inputs schedule first n core jobs at number whose some ended new next turns = record {
  state = turns.keeps inputs at.state;
  reached = (
    state_of core jobs,
    turns.full,
    at.reached,
    ended_is inputs core jobs at.state ∙ positive (under_way jobs) some,
    λ e. subst (λ m. MayFill inputs.kind m inputs.load (lines_so_far (state_of core jobs))) at.leaves (turns.filling inputs at.state e),
    turns.state ∙ (λ i. turn (at.state.kind i) (state_of core jobs) (sym whose i) turns.full),
  );
  leaves = turns.leaves ∙ at.leaves;
  served = λ small. turns.served ∙ (λ i. cond (sym whose i == 0) (one_more core.served) core.served) ∙ counts (turn_at (length inputs.scripts) schedule n == 0) core.served (service_turns (length inputs.scripts) schedule n) (at.served small);
  journal = ((at.journal).0 ++ (turns.journal).0, (turns.journal).1 ∙ ap (λ xs. xs ++ (turns.journal).0) (at.journal).1 ∙ append_assoc first.journal (at.journal).0 (turns.journal).0);
}
  where
    positive : (n : ℕ) → 0 < n → (n == 0) ≡ false
    positive n lt = grind (arith, nat_tests)

    counts : (b : Bool) (served t : ℕ) → served ≡ min (first.served + t) (2 ^ 64 - 1) → cond b (one_more served) served ≡ min (first.served + cond b (t + 1) t) (2 ^ 64 - 1)
    counts true served t e = ap one_more e ∙ (omega arith)
    counts false served t e = e

-- ---- whose turn it is

pub scheduled : (scripts : ℕ) (schedule : List ℕ) (i job : ℕ) → slice_get schedule i ≡ Some job → turn_at scripts schedule i ≡ job
scheduled scripts [] i job e = cc
scheduled scripts (x ∷ schedule) zero job e = cc
scheduled scripts (x ∷ schedule) (suc i) job e = scheduled scripts schedule i job e

pub behind_schedule : (scripts : ℕ) (schedule : List ℕ) (n m : ℕ) → n ≡ length schedule + m → turn_at scripts schedule n ≡ rotated scripts m
behind_schedule scripts [] n m e = let same : n ≡ m = omega (arith, e) in ap (rotated scripts) same
behind_schedule scripts (x ∷ schedule) zero m e = absurd (omega (arith, e))
behind_schedule scripts (x ∷ schedule) (suc n) m e = behind_schedule scripts schedule n m (omega (arith, e))

-- ---- the end

pub answers_of_lines : (txn : ℕ) (cs : List Command) (ys : List Answer) → length ys ≤ length cs → map (λ (l : AnsweredLine). l.answer) (answered_from txn cs ys) ≡ ys
answers_of_lines txn [] [] le = refl
answers_of_lines txn [] (y ∷ ys) le = absurd (omega (arith, le))
answers_of_lines txn (c ∷ cs) [] le = refl
answers_of_lines txn (c ∷ cs) (y ∷ ys) le = ap (λ zs. y ∷ zs) (answers_of_lines (next_txn txn c) cs ys (omega (arith, le)))

reports_are : (ps : List PassState) (js : List Progress) → length js ≤ length ps → ((k : ℕ) (job : Progress) → slice_get js k ≡ Some job → length job.answers ≤ length job.commands)
    → map (λ (job : Progress). job.answers) js ≡ map (λ (j : JobState). map (λ (l : AnsweredLine). l.answer) j.lines) (seats ps js)
reports_are [] [] le short = refl
reports_are [] (job ∷ js) le short = absurd (omega (arith, le))
reports_are (p ∷ ps) [] le short = refl
reports_are (p ∷ ps) (job ∷ js) le short =
    λ i. sym (answers_of_lines 0 job.commands job.answers (short 0 job refl)) i ∷ reports_are ps js (omega (arith, le)) (λ k q e. short (suc k) q e) i

-- ---- no transaction is open at the end

none_within : (skipping : Bool) (start : Option ℕ) (cs : List Command) → is_empty cs ≡ true → IsScript (Some (skipping || is_some start)) cs → start ≡ None
none_within skipping None cs e script = refl
none_within false (Some start) [] e script = cc
none_within true (Some start) [] e script = cc
none_within skipping (Some start) (c ∷ cs) e script = cc

both : (a b : Bool) → a && b ≡ true → (a ≡ true) × (b ≡ true)
both true b e = (refl, e)
both false b e = cc

each_ended : (js : List JobState) → list_all (λ (j : JobState). is_empty j.left) js ≡ true → (k : ℕ) (j : JobState) → slice_get js k ≡ Some j → is_empty j.left ≡ true
each_ended [] over k j e = cc
each_ended (i ∷ js) over zero j e = let same : i ≡ j = cc in subst (λ (x : JobState). is_empty x.left ≡ true) same (both (is_empty i.left) _ over).0
each_ended (i ∷ js) over (suc k) j e = each_ended js (both (is_empty i.left) _ over).1 k j e

pub closed_at_end : (inputs : Inputs) (core : Core) (jobs : List Progress) → AreUnderWay inputs core jobs → has_ended (state_of core jobs) ≡ true → (p : ℕ) → (pass_at core p).start ≡ None
closed_at_end inputs core jobs are over zero = are.closed
closed_at_end inputs core jobs are over (suc k) = by_place (slice_get_cases jobs k).1
  where
    by_place : ((job : Progress) × (k < length jobs) × (slice_get jobs k ≡ Some job) × (get_or jobs k job ≡ job)) ⊎ ((length jobs ≤ k) × (slice_get jobs k ≡ None)) → (pass_at core (suc k)).start ≡ None
    by_place (inr (past, e)) = (are.unused k past).closed
    by_place (inl (job, inside, e, same)) = none_within _ (pass_at core (suc k)).start (left_of job) (each_ended (state_of core jobs).jobs over k (job_at (pass_at core (suc k)) job) (ties.seat inputs core jobs are k job e)) (ties.its inputs core jobs are k job e).script

-- the answered lines of a script, and those that are left, are the script
commands_of_lines : (txn : ℕ) (cs : List Command) (ys : List Answer) → length ys ≤ length cs → map (λ (l : AnsweredLine). l.command) (answered_from txn cs ys) ++ drop (length ys) cs ≡ cs
commands_of_lines txn [] [] le = refl
commands_of_lines txn [] (y ∷ ys) le = absurd (omega (arith, le))
commands_of_lines txn (c ∷ cs) [] le = refl
commands_of_lines txn (c ∷ cs) (y ∷ ys) le = ap (λ ds. c ∷ ds) (commands_of_lines (next_txn txn c) cs ys (omega (arith, le)))

done_at_end : (inputs : Inputs) (core : Core) (jobs : List Progress) → AreUnderWay inputs core jobs → has_ended (state_of core jobs) ≡ true → HaveDone inputs.scripts (map (λ job. job.answers) jobs) core
done_at_end inputs core jobs are over k commands answers script report =
    let found = map_get (λ (job : Progress). job.answers) jobs k answers report in
    let tied = are.each k found.0 found.1 in
    let seat = ties.seat inputs core jobs are k found.0 found.1 in
    let whole = sym (get_map script_of (state_of core jobs).jobs k (job_at (pass_at core (suc k)) found.0) seat) ∙ ap (λ xs. slice_get xs k) are.state.whole ∙ script in
    let same = sym (commands_of_lines 0 (found.0).commands (found.0).answers tied.answered) ∙ some_commands whole in
    subst (λ cs. HasDone (pass_at core (suc k)) cs answers) same (subst (HasDone (pass_at core (suc k)) (found.0).commands) found.2 (record {
      begun = none_left (left_of found.0) (each_ended (state_of core jobs).jobs over k (job_at (pass_at core (suc k)) found.0) seat) ∙ tied.begins;
      count = tied.counted;
      made = tied.by_txn;
    }))
  where
    none_left : (cs : List Command) → is_empty cs ≡ true → (pass_at core (suc k)).begun ≡ begun_by (pass_at core (suc k)).begun cs
    none_left [] e = refl
    none_left (c ∷ cs) e = cc

    some_commands : {x y : List Command} → ◌≡◌ {A = Option (List Command)} (Some x) (Some y) → x ≡ y
    some_commands e = cc

pub at_end : (inputs : Inputs) (schedule : List ℕ) (first : Core) (n : ℕ) (core : Core) (jobs : List Progress) → IsAt inputs schedule first n core jobs → under_way jobs ≡ 0 → Ends inputs schedule first core jobs
at_end inputs schedule first n core jobs at none = record {
  run = record {
    turns = n;
    last = state_of core jobs;
    reached = at.reached;
    over = ended_is inputs core jobs at.state ∙ ap (λ m. m == 0) none ∙ self_eq 0;
    journal = refl;
    reports = reports_are (drop 1 core.passes) jobs (enough core.passes (length jobs) at.state.passes) (λ k job e. (at.state.each k job e).answered);
    filed = length-map _ _ ∙ at.state.count;
    files = λ k ls files e f.
        let job = map_get (λ (job : Progress). map file_of job.tables) jobs k files f in
        let seat = ties.seat inputs core jobs at.state k job.0 job.1 in
        let lines : answered_lines (job.0).commands (job.0).answers ≡ ls = some_same (sym (get_map (λ (j : JobState). j.lines) (state_of core jobs).jobs k (job_at (pass_at core (suc k)) job.0) seat) ∙ e) in
        subst (λ xs. HasFiles (context_in inputs.kind inputs.load (state_of core jobs) k) [] xs files) lines
        (subst (λ xs. HasFiles (context_in inputs.kind inputs.load (state_of core jobs) k) [] (answered_lines (job.0).commands (job.0).answers) xs) job.2
        (files_to (files_context core) (context_in inputs.kind inputs.load (state_of core jobs) k) (length core.journal) at.state.kind (λ start own le. ap (λ kind. view kind core.journal start own) at.state.kind) []
        (answered_lines (job.0).commands (job.0).answers) (map file_of (job.0).tables) (ties.its inputs core jobs at.state k job.0 job.1).shown (at.state.each k job.0 job.1).files));
  };
  kind = at.state.kind;
  closed = closed_at_end inputs core jobs at.state (ended_is inputs core jobs at.state ∙ ap (λ m. m == 0) none ∙ self_eq 0);
  passes = done_at_end inputs core jobs at.state (ended_is inputs core jobs at.state ∙ ap (λ m. m == 0) none ∙ self_eq 0);
  served = at.served;
}
  where
    enough : (ps : List PassState) (n : ℕ) → n < length ps → n ≤ length (drop 1 ps)
    enough [] n lt = absurd (omega (arith, lt))
    enough (p ∷ ps) n lt = omega (arith, lt)

    some_same : {x y : List AnsweredLine} → ◌≡◌ {A = Option (List AnsweredLine)} (Some x) (Some y) → x ≡ y
    some_same e = cc

-- The first turn and the end of jobs whose commits are checked.
use Rattle.std.proofs.Common.{◌≡◌, ℕ, zero, suc, ◌+◌, ◌<◌, ◌≤◌, List, [], ◌∷◌, ◌++◌, map, length, drop, refl, sym, ◌∙◌, ap, subst, arith, cond, append_assoc, length-append}
use Rattle.std.specs.Prelude.{true, false, ◌==◌, ◌&&◌, ◌||◌, nat_lt, slice_get, slice_set, Option, Some, None}
use Rattle.std.specs.List.{list_all}
use Rattle.std.proofs.lemmas.List.{append-nil, length-map}
use Rattle.graph_model.specs.declared.write.Kind.{Kind}
use Rattle.graph_model.specs.declared.journal.Commit.{Commit}
use Rattle.graph_model.specs.declared.refusal.Cause.TheVariants.{Later, Holder}
use Rattle.graph_model.specs.OwnerCalls.{PassState, Core, pass_at}
use Rattle.graph_model.proofs.TestLemmas.{both_of, self_eq}
use Rattle.graph_model.proofs.PlaceLemmas.{some_eq}
use Rattle.graph_model.proofs.LegalLemmas.{below_length}
use Rattle.graph_model.proofs.HistoryLemmas.{get_within}
use Rattle.run_model.specs.declared.command.Command.{Command}
use Rattle.run_model.specs.declared.answer.Answer.{Answer}
use Rattle.run_model.specs.declared.answer.Answer.TheVariants as answers
use Rattle.run_model.specs.Commands.{next_txn, begun_by}
use Rattle.run_model.specs.AnsweredLines.{AnsweredLine, effect, of_txn, own_writes, snapshot}
use Rattle.run_model.specs.Answering.{IsKernelTable}
use Rattle.run_model.specs.Inputs.{Inputs, AreInputs, File}
use Rattle.run_model.specs.Run.{Context, Filing, IsFiled, HasFiles}
use Rattle.run_model.specs.Jobs.{JobState, RunState, new_job, first_state, is_empty, has_ended}
use Rattle.run_model.specs.Stepped.{context_in}
use Rattle.run_model.specs.UnderWay.{AreNumbered, script_of}
use Rattle.run_model.proofs.SetLemmas.{get_map, map_get}
use Rattle.run_model.proofs.LineLemmas.{numbered_lines, begun_behind}
use Rattle.job_runner.specs.LineRunner.Phases.{file_of}
use Rattle.job_runner.specs.Progress.{Progress, job_at, seats, state_of}
use Rattle.job_runner.specs.Runs.{AreNew, under_way, files_context, HasDone, HaveDone}
use Rattle.job_runner.proofs.RunLemmas.{first_state_is, new_under_way, ended_is, answers_of_lines, closed_at_end}
use Rattle.serial_runner.proofs.TurnLemmas.{map_at, answered_count}
use Rattle.job_runner.proofs.TieLemmas as ties
use Rattle.serial_model.specs.Footprints.{footprint}
use Rattle.serial_check.specs.Ranges.{covers}
use Rattle.serial_model.specs.SerialRun.{is_refused, line_read, job_read, IsRefusal, EachLine}
use Rattle.serial_model.proofs.ReadLemmas.{own_read, numbered_read, files_unread, next_read_one}
use Rattle.serial_model.proofs.WayLemmas.{IsKeptLine, IsSerialWay}
use Rattle.serial_model.proofs.SerialLemmas.{reached_way, ended_read, first_read_is}
use Rattle.serial_runner.specs.declared.run.RefusedCommit.{RefusedCommit}
use Rattle.serial_runner.specs.declared.run.Check.{Check}
use Rattle.serial_runner.specs.SerialRuns.{refused_from, depends_at_hand, IsUnderCheck, answered_anew, jobs_anew, SerialEnds}

-- ---- before the first turn

none_refused : (checks : List Check) (scripts : List (List Command)) → length checks ≡ length scripts → ((k : ℕ) (c : Check) → slice_get checks k ≡ Some c → c.refused ≡ [])
    → map (λ (c : Check). c.refused) checks ≡ map (λ (j : JobState). refused_from 0 j.lines) (map new_job scripts)
none_refused [] [] e none = refl
none_refused [] (cs ∷ scripts) e none = absurd (omega (arith, e))
none_refused (c ∷ checks) [] e none = absurd (omega (arith, e))
none_refused (c ∷ checks) (cs ∷ scripts) e none = λ i. none 0 c refl i ∷ none_refused checks scripts (omega (arith, e)) (λ k d f. none (suc k) d f) i

pub at_first : (inputs : Inputs) (schedule : List ℕ) (core : Core) (jobs : List Progress) (checks : List Check) → AreNew inputs core jobs → length checks ≡ length jobs
    → ((k : ℕ) (c : Check) → slice_get checks k ≡ Some c → (c.footprint.items ≡ []) × (c.refused ≡ [])) → IsUnderCheck inputs schedule core 0 core jobs checks
at_first inputs schedule core jobs checks new count none =
    let u = new_under_way inputs core jobs new in
    record {
      state = first_state inputs;
      reached = refl;
      read = inputs;
      under = u;
      kind = refl;
      load = refl;
      count = u.count;
      same = first_read_is inputs ∙ sym (first_state_is inputs core jobs new);
      refused = none_refused checks inputs.scripts (count ∙ u.count) (λ k c e. (none k c e).1);
      feet = λ k j c e f q row. (let r = map_get new_job inputs.scripts k j e in
          ap (λ rs. covers rs q) (none k c f).0 ∙ ap (λ (x : JobState). footprint inputs.kind (of_txn x.begun x.lines) q || (nat_lt 0 x.taken && depends_at_hand inputs.kind x.left q)) r.2);
      leaves = refl;
      served = λ small. omega (arith, small);
      journal = ([], sym (append-nil core.journal));
    }

-- ---- answers of refused commits

set_middle : {X : Type 0} (xs ys : List X) (x y : X) → slice_set (xs ++ x ∷ ys) (length xs) y ≡ xs ++ y ∷ ys
set_middle [] ys x y = refl
set_middle (z ∷ xs) ys x y = ap (λ zs. z ∷ zs) (set_middle xs ys x y)

-- a refused commit's answer is that of its stamp
abbrev AreConflicts : List AnsweredLine → Type 0
AreConflicts ls = (i : ℕ) (l : AnsweredLine) → slice_get ls i ≡ Some l → is_refused l.command l.answer ≡ true → l.answer ≡ answers.Conflict (Later (effect l.answer).stamp)

anew : (front : List Answer) (ls : List AnsweredLine) (place : ℕ) → place ≡ length front → AreConflicts ls
    → answered_anew (refused_from place ls) (front ++ map (λ (l : AnsweredLine). l.answer) (map line_read ls)) ≡ front ++ map (λ (l : AnsweredLine). l.answer) ls
anew front [] place e are = refl
anew front (l ∷ ls) place e are =
    let behind : List Answer = map (λ (m : AnsweredLine). m.answer) (map line_read ls) in
    let goes_on : answered_anew (refused_from (place + 1) ls) (front ++ l.answer ∷ behind) ≡ front ++ l.answer ∷ map (λ (m : AnsweredLine). m.answer) ls =
    ap (answered_anew (refused_from (place + 1) ls)) (sym (append_assoc front (l.answer ∷ []) behind))
    ∙ anew (front ++ l.answer ∷ []) ls (place + 1) (omega (arith, e, length-append front (l.answer ∷ []))) (λ i m at. are (suc i) m at)
    ∙ append_assoc front (l.answer ∷ []) (map (λ (m : AnsweredLine). m.answer) ls) in
    elim (is_refused l.command l.answer) as (λ t. is_refused l.command l.answer ≡ t
    → answered_anew (cond t (record { line = place; stamp = (effect l.answer).stamp } ∷ refused_from (place + 1) ls) (refused_from (place + 1) ls)) (front ++ cond t answers.Aborted l.answer ∷ behind)
    ≡ front ++ l.answer ∷ map (λ (m : AnsweredLine). m.answer) ls) [
      | true ↦ λ t.
          ap (answered_anew (refused_from (place + 1) ls))
          (ap (λ n. slice_set (front ++ answers.Aborted ∷ behind) n (answers.Conflict (Later (effect l.answer).stamp))) e
          ∙ set_middle front behind answers.Aborted (answers.Conflict (Later (effect l.answer).stamp))
          ∙ ap (λ a. front ++ a ∷ behind) (sym (are 0 l refl t)))
          ∙ goes_on
      | false ↦ λ t. goes_on
    ] refl

-- the answers of a job, with those of its refused commits
pub job_answers : (pass : PassState) (job : Progress) (j : JobState) (refused : List RefusedCommit) → length job.answers ≤ length job.commands → job_read j ≡ job_at pass job → refused ≡ refused_from 0 j.lines → AreConflicts j.lines
    → answered_anew refused job.answers ≡ map (λ (l : AnsweredLine). l.answer) j.lines
job_answers pass job j refused le same is are =
    (λ i. answered_anew (is i) (sym (answers_of_lines 0 job.commands job.answers le) i))
    ∙ ap (λ (x : JobState). answered_anew (refused_from 0 j.lines) (map (λ (l : AnsweredLine). l.answer) x.lines)) (sym same)
    ∙ anew [] j.lines 0 refl are

-- what is kept of a line says that a refused commit's answer is a conflict with a later commit
pub refusal_shape : (a : Answer) (kind : Kind) (journal : List Commit) (before : List AnsweredLine) (txn : ℕ) → IsRefusal kind journal before txn a → a ≡ answers.Conflict (Later (effect a).stamp)
refusal_shape (answers.Conflict (Later stamp)) kind journal before txn is = refl
refusal_shape (answers.Conflict (Holder by)) kind journal before txn is = absurd is
refusal_shape (answers.Begun by start) kind journal before txn is = absurd is
refusal_shape answers.Done kind journal before txn is = absurd is
refusal_shape answers.Exists kind journal before txn is = absurd is
refusal_shape answers.SelfLoop kind journal before txn is = absurd is
refusal_shape (answers.NoVertex v) kind journal before txn is = absurd is
refusal_shape answers.NoEdge kind journal before txn is = absurd is
refusal_shape answers.HasEdges kind journal before txn is = absurd is
refusal_shape answers.Full kind journal before txn is = absurd is
refusal_shape (answers.Weight weight) kind journal before txn is = absurd is
refusal_shape answers.Nothing kind journal before txn is = absurd is
refusal_shape (answers.Neighbours targets) kind journal before txn is = absurd is
refusal_shape (answers.Counted vertices edges) kind journal before txn is = absurd is
refusal_shape (answers.Table entries) kind journal before txn is = absurd is
refusal_shape (answers.Committed stamp) kind journal before txn is = absurd is
refusal_shape answers.Aborted kind journal before txn is = absurd is
refusal_shape answers.Skipped kind journal before txn is = absurd is

are_conflicts : (kind : Kind) (journal : List Commit) (before ls : List AnsweredLine) → EachLine (IsKeptLine kind journal) before ls → AreConflicts ls
are_conflicts kind journal before [] all i l at e = cc
are_conflicts kind journal before (x ∷ ls) all zero l at e =
    let is : x ≡ l = some_eq x l at in
    subst (λ (m : AnsweredLine). m.answer ≡ answers.Conflict (Later (effect m.answer).stamp)) is
    (refusal_shape x.answer kind journal before x.txn (all.0.refused (ap (λ (m : AnsweredLine). is_refused m.command m.answer) is ∙ e)))
are_conflicts kind journal before (x ∷ ls) all (suc i) l at e = are_conflicts kind journal (before ++ x ∷ []) ls all.1 i l at e

-- ---- the answers that are given anew

refused_within : (place : ℕ) (ls : List AnsweredLine) (i : ℕ) (r : RefusedCommit) → slice_get (refused_from place ls) i ≡ Some r → r.line < place + length ls
refused_within place [] i r at = cc
refused_within place (l ∷ ls) i r at =
    elim (is_refused l.command l.answer) as (λ t. slice_get (cond t (record { line = place; stamp = (effect l.answer).stamp } ∷ refused_from (place + 1) ls) (refused_from (place + 1) ls)) i ≡ Some r → r.line < place + length (l ∷ ls)) [
      | true ↦ λ e. by_place i (λ m here. refused_within (place + 1) ls m r here) e
      | false ↦ λ e. let lt = refused_within (place + 1) ls i r e in omega (arith, lt)
    ] at
  where
    by_place : (i : ℕ) → ((m : ℕ) → slice_get (refused_from (place + 1) ls) m ≡ Some r → r.line < place + 1 + length ls)
        → slice_get (record { line = place; stamp = (effect l.answer).stamp } ∷ refused_from (place + 1) ls) i ≡ Some r → r.line < place + length (l ∷ ls)
    by_place zero later e =
        let same : record { line = place; stamp = (effect l.answer).stamp } ≡ r = some_eq (record { line = place; stamp = (effect l.answer).stamp }) r e in
        let is : place ≡ r.line = ap (λ (x : RefusedCommit). x.line) same in
        omega (arith, is)
    by_place (suc i) later e = let lt = later i e in omega (arith, lt)

module _ (inputs : Inputs) (schedule : List ℕ) (first : Core) (n : ℕ) (core : Core) (jobs : List Progress) (checks : List Check) (u : IsUnderCheck inputs schedule first n core jobs checks) where
  count_is : length u.state.jobs ≡ length jobs
  count_is =
      sym (length-map u.state.jobs job_read) ∙ ap (λ (t : RunState). length t.jobs) u.same
      ∙ sym (length-map (state_of core jobs).jobs script_of) ∙ ap length u.under.state.whole ∙ sym u.under.count

  pub checks_count : length checks ≡ length jobs
  checks_count = sym (length-map checks (λ (c : Check). c.refused)) ∙ ap length u.refused ∙ length-map u.state.jobs (λ (j : JobState). refused_from 0 j.lines) ∙ count_is

  -- each is that of a line that was answered
  pub lines_within : (k : ℕ) (c : Check) (p : Progress) (i : ℕ) (r : RefusedCommit) → slice_get checks k ≡ Some c → slice_get jobs k ≡ Some p → slice_get c.refused i ≡ Some r → r.line < length p.answers
  lines_within k c p i r at there e =
      let script = map_get job_read u.state.jobs k (job_at (pass_at core (suc k)) p) (ap (λ (t : RunState). slice_get t.jobs k) u.same ∙ ties.seat u.read core jobs u.under k p there) in
      let refs : c.refused ≡ refused_from 0 (script.0).lines =
      map_at (λ (x : Check). x.refused) checks k c (refused_from 0 (script.0).lines) at (ap (λ xs. slice_get xs k) u.refused ∙ get_map (λ (x : JobState). refused_from 0 x.lines) u.state.jobs k script.0 script.1) in
      let count : length (script.0).lines ≡ length p.answers =
      sym (length-map (script.0).lines line_read) ∙ ap (λ (x : JobState). length x.lines) script.2 ∙ answered_count 0 p.commands p.answers (u.under.each k p there).answered in
      let lt = refused_within 0 (script.0).lines i r (ap (λ rs. slice_get rs i) (sym refs) ∙ e) in
      omega (arith, lt, count)

-- ---- the end

abbrev commands_in : JobState → List Command
commands_in j = map (λ l. l.command) j.lines

whole_script : (j : JobState) (cs : List Command) → j.left ≡ cs → is_empty cs ≡ true → script_of j ≡ commands_in j
whole_script j [] e f = ap (λ xs. commands_in j ++ xs) e ∙ append-nil (commands_in j)
whole_script j (c ∷ cs) e f = cc

-- scripts that have ended are those of their lines
whole_scripts : (jobs : List JobState) → list_all (λ j. is_empty j.left) jobs ≡ true → map script_of jobs ≡ map commands_in jobs
whole_scripts [] e = refl
whole_scripts (j ∷ jobs) e =
    let p = both_of (is_empty j.left) (list_all (λ i. is_empty i.left) jobs) e in
    (λ i. whole_script j j.left refl p.0 i ∷ whole_scripts jobs p.1 i)

begun_read : (n : ℕ) (ls : List AnsweredLine) → begun_by n (map (λ (l : AnsweredLine). l.command) (map line_read ls)) ≡ begun_by n (map (λ (l : AnsweredLine). l.command) ls)
begun_read n [] = refl
begun_read n (l ∷ ls) = ap (λ m. begun_by m (map (λ (x : AnsweredLine). x.command) (map line_read ls))) (next_read_one l n) ∙ begun_read (next_txn n l.command) ls

tables_anew : (checks : List Check) (jobs : List Progress) → map (λ (job : Progress). map file_of job.tables) (jobs_anew checks jobs) ≡ map (λ (job : Progress). map file_of job.tables) jobs
tables_anew [] jobs = refl
tables_anew (c ∷ checks) [] = refl
tables_anew (c ∷ checks) (job ∷ jobs) = ap (λ xs. map file_of job.tables ∷ xs) (tables_anew checks jobs)

-- the reports of the jobs are those of the state
reports_anew : (ps : List PassState) (jobs : List Progress) (checks : List Check) (js : List JobState) → length jobs ≤ length ps → map job_read js ≡ seats ps jobs → map (λ (c : Check). c.refused) checks ≡ map (λ (j : JobState). refused_from 0 j.lines) js
    → ((k : ℕ) (job : Progress) → slice_get jobs k ≡ Some job → length job.answers ≤ length job.commands) → ((k : ℕ) (j : JobState) → slice_get js k ≡ Some j → AreConflicts j.lines)
    → map (λ (job : Progress). job.answers) (jobs_anew checks jobs) ≡ map (λ (j : JobState). map (λ (l : AnsweredLine). l.answer) j.lines) js
reports_anew [] [] [] [] le same refused short are = refl
reports_anew [] [] (c ∷ checks) [] le same refused short are = refl
reports_anew (p ∷ ps) [] [] [] le same refused short are = refl
reports_anew (p ∷ ps) [] (c ∷ checks) [] le same refused short are = refl
reports_anew [] [] checks (j ∷ js) le same refused short are = cc
reports_anew (p ∷ ps) [] checks (j ∷ js) le same refused short are = cc
reports_anew [] (job ∷ jobs) checks js le same refused short are = absurd (omega (arith, le))
reports_anew (p ∷ ps) (job ∷ jobs) checks [] le same refused short are = cc
reports_anew (p ∷ ps) (job ∷ jobs) [] (j ∷ js) le same refused short are = cc
reports_anew (p ∷ ps) (job ∷ jobs) (c ∷ checks) (j ∷ js) le same refused short are =
    let head : job_read j ≡ job_at p job = job_head same in
    let tail : map job_read js ≡ seats ps jobs = job_tail same in
    let first : c.refused ≡ refused_from 0 j.lines = refused_head refused in
    let rest : map (λ (c : Check). c.refused) checks ≡ map (λ (j : JobState). refused_from 0 j.lines) js = refused_tail refused in
    λ i. job_answers p job j c.refused (short 0 job refl) head first (are 0 j refl) i
    ∷ reports_anew ps jobs checks js (omega (arith, le)) tail rest (λ k x e. short (suc k) x e) (λ k x e. are (suc k) x e) i
  where
    job_head : {x y : JobState} {xs ys : List JobState} → x ∷ xs ≡ y ∷ ys → x ≡ y
    job_head e = cc

    job_tail : {x y : JobState} {xs ys : List JobState} → x ∷ xs ≡ y ∷ ys → xs ≡ ys
    job_tail e = cc

    refused_head : {x y : List RefusedCommit} {xs ys : List (List RefusedCommit)} → x ∷ xs ≡ y ∷ ys → x ≡ y
    refused_head e = cc

    refused_tail : {x y : List RefusedCommit} {xs ys : List (List RefusedCommit)} → x ∷ xs ≡ y ∷ ys → xs ≡ ys
    refused_tail e = cc

-- files are judged by the kind and the journal alone
files_by : (x y : Context) → x.kind ≡ y.kind → x.journal ≡ y.journal → (before ls : List AnsweredLine) (files : List File) → HasFiles x before ls files → HasFiles y before ls files
files_by x y kind journal before [] files has = has
files_by x y kind journal before (l ∷ ls) files has = (has.0, filed _ files has.0 has.1, files_by x y kind journal (before ++ l ∷ []) ls has.0 has.2)
  where
    filed : (f : Option Filing) (files rest : List File) → IsFiled x before l.txn f files rest → IsFiled y before l.txn f files rest
    filed None files rest is = is
    filed (Some f) files rest is = (
      is.0,
      is.1,
      subst (λ k. IsKernelTable k (snapshot k y.journal l.txn before) f.kernel is.0) kind
          (subst (λ js. IsKernelTable x.kind (snapshot x.kind js l.txn before) f.kernel is.0) journal is.2),
    )

module _ (inputs : Inputs) (schedule : List ℕ) (first : Core) (n : ℕ) (core : Core) (jobs : List Progress) (checks : List Check) (u : IsUnderCheck inputs schedule first n core jobs checks)
    (given : AreInputs inputs) (none : under_way jobs ≡ 0) where
  abbrev s : RunState
  s = u.state

  way : IsSerialWay inputs first.leaves s
  way = reached_way inputs first.leaves schedule n s given u.reached

  over_read : has_ended (state_of core jobs) ≡ true
  over_read = ended_is u.read core jobs u.under ∙ ap (λ m. m == 0) none ∙ self_eq 0

  over : has_ended s ≡ true
  over = sym (ended_read s.jobs) ∙ ap has_ended u.same ∙ over_read

  scripts : inputs.scripts ≡ map commands_in s.jobs
  scripts = sym way.whole ∙ whole_scripts s.jobs over

  numbered : (k : ℕ) (j : JobState) → slice_get s.jobs k ≡ Some j → AreNumbered 0 j.lines j.begun
  numbered k j e = numbered_read 0 j.lines j.begun (way.under.each k (job_read j) (get_map job_read s.jobs k j e)).numbered

  conflicts : (k : ℕ) (j : JobState) → slice_get s.jobs k ≡ Some j → AreConflicts j.lines
  conflicts k j e = are_conflicts inputs.kind s.journal [] j.lines (way.lines k j e)

  job_same : (k : ℕ) (j : JobState) (job : Progress) → slice_get s.jobs k ≡ Some j → slice_get jobs k ≡ Some job → job_read j ≡ job_at (pass_at core (suc k)) job
  job_same k j job e f = some_eq _ _ (sym (get_map job_read s.jobs k j e) ∙ ap (λ (t : RunState). slice_get t.jobs k) u.same ∙ ties.seat u.read core jobs u.under k job f)

  reports : map (λ (job : Progress). job.answers) (jobs_anew checks jobs) ≡ map (λ (j : JobState). map (λ (l : AnsweredLine). l.answer) j.lines) s.jobs
  reports = reports_anew (drop 1 core.passes) jobs checks s.jobs (enough core.passes (length jobs) u.under.passes) (ap (λ (t : RunState). t.jobs) u.same) u.refused
      (λ k job e. (u.under.each k job e).answered) conflicts
    where
      enough : (ps : List PassState) (n : ℕ) → n < length ps → n ≤ length (drop 1 ps)
      enough [] n lt = absurd (omega (arith, lt))
      enough (p ∷ ps) n lt = omega (arith, lt)

  job_at_place : (k : ℕ) (j : JobState) → slice_get s.jobs k ≡ Some j → (job : Progress) × (slice_get jobs k ≡ Some job)
  job_at_place k j e = get_within jobs k (let lt = below_length s.jobs k j e in let same = count_is inputs schedule first n core jobs checks u in omega (arith, lt, same))

  done : (k : ℕ) (j : JobState) → slice_get s.jobs k ≡ Some j → (job : Progress) → slice_get jobs k ≡ Some job → HasDone (pass_at core (suc k)) (commands_in j) (map (λ (l : AnsweredLine). l.answer) j.lines)
  done k j e job f =
      let tied = u.under.each k job f in
      let same = job_same k j job e f in
      record {
        begun = ap (λ (x : JobState). x.begun) (sym same) ∙ sym (begun_all j (numbered k j e));
        count = tied.counted;
        made = λ m lt. tied.by_txn m lt
            ∙ ap (λ (x : JobState). Some (own_writes (suc m) x.lines)) (sym same)
            ∙ ap Some (own_read (suc m) j.lines)
            ∙ ap (λ ls. Some (own_writes (suc m) ls)) (sym (numbered_lines 0 j.lines j.begun (numbered k j e)));
      }
    where
      begun_all : (j : JobState) → AreNumbered 0 j.lines j.begun → begun_by 0 (map (λ (l : AnsweredLine). l.command) j.lines) ≡ j.begun
      begun_all j are = ap (begun_by 0) (sym (append-nil (map (λ (l : AnsweredLine). l.command) j.lines))) ∙ begun_behind 0 j.lines j.begun [] are

  passes_done : HaveDone inputs.scripts (map (λ (job : Progress). job.answers) (jobs_anew checks jobs)) core
  passes_done k commands answers script report =
      let a = map_get commands_in s.jobs k commands (ap (λ xs. slice_get xs k) (sym scripts) ∙ script) in
      let b = map_get (λ (j : JobState). map (λ (l : AnsweredLine). l.answer) j.lines) s.jobs k answers (ap (λ xs. slice_get xs k) (sym reports) ∙ report) in
      let same : b.0 ≡ a.0 = some_eq b.0 a.0 (sym b.1 ∙ a.1) in
      let answers_are : map (λ (l : AnsweredLine). l.answer) (a.0).lines ≡ answers = ap (λ (j : JobState). map (λ (l : AnsweredLine). l.answer) j.lines) (sym same) ∙ b.2 in
      let job = job_at_place k a.0 a.1 in
      subst (λ cs. HasDone (pass_at core (suc k)) cs answers) a.2
      (subst (HasDone (pass_at core (suc k)) (commands_in a.0)) answers_are (done k a.0 a.1 job.0 job.1))

  pub at_end : SerialEnds inputs schedule first core (jobs_anew checks jobs)
  at_end = record {
    run = record {
      turns = n;
      last = s;
      reached = u.reached;
      over = over;
      journal = ap (λ (t : RunState). t.journal) (sym u.same);
      reports = reports;
      filed = ap length (tables_anew checks jobs) ∙ length-map jobs (λ (job : Progress). map file_of job.tables) ∙ sym (count_is inputs schedule first n core jobs checks u) ∙ sym (length-map s.jobs commands_in) ∙ sym (ap length scripts);
      files = λ k ls files e f.
          let a = map_get (λ (j : JobState). j.lines) s.jobs k ls e in
          let b = map_get (λ (job : Progress). map file_of job.tables) jobs k files (ap (λ xs. slice_get xs k) (sym (tables_anew checks jobs)) ∙ f) in
          let same = job_same k a.0 b.0 a.1 b.1 in
          subst (λ xs. HasFiles (context_in inputs.kind inputs.load s k) [] xs files) a.2
          (files_by (files_context core) (context_in inputs.kind inputs.load s k) (u.under.kind ∙ u.kind) (ap (λ (t : RunState). t.journal) (sym u.same)) [] (a.0).lines files
          (files_unread (files_context core) [] (a.0).lines files
          (subst (λ xs. HasFiles (files_context core) [] (map line_read (a.0).lines) xs) b.2
          (subst (λ (x : JobState). HasFiles (files_context core) [] x.lines (map file_of (b.0).tables)) (sym same) (u.under.each k b.0 b.1).files))));
    };
    kind = u.under.kind ∙ u.kind;
    closed = closed_at_end u.read core jobs u.under over_read;
    passes = passes_done;
    served = u.served;
  }

-- A run is under way before its first turn, and where all scripts have ended it is one.
use Rattle.std.proofs.Common.{◌≡◌, ℕ, zero, suc, ◌+◌, ◌<◌, ◌≤◌, List, [], ◌∷◌, ◌++◌, map, length, refl, sym, ◌∙◌, ap, subst, arith, cond, inl, inr}
use Rattle.std.specs.Prelude.{◌⊎◌, Bool, true, false, ◌-◌, nat_lt, slice_get, Option, Some, None, unwrap_or}
use Rattle.std.specs.List.{list_all, AllByRecursion}
use Rattle.std.proofs.lemmas.Bool.{true≢false}
use Rattle.std.proofs.lemmas.List.{append-nil, length-map}
use Rattle.std.proofs.lemmas.Option.{none-some}
use Rattle.graph_model.specs.declared.write.Kind.{Kind}
use Rattle.graph_model.specs.declared.write.Write.{Write}
use Rattle.graph_model.specs.declared.journal.Commit.{Commit}
use Rattle.graph_model.specs.declared.journal.TxnName.{TxnName}
use Rattle.graph_model.specs.Graph.{empty_graph}
use Rattle.graph_model.specs.Refused.{AllAllowed, IsWithinLimits}
use Rattle.graph_model.specs.Legal.{IsLegal, have_clash}
use Rattle.graph_model.specs.Conflict.{same_name}
use Rattle.graph_model.specs.Transactions.{Running, AreTransactions, IsRunning, own_of, writes_of_running}
use Rattle.graph_model.specs.Passes.{state_in}
use Rattle.graph_model.proofs.ClashLemmas.{no_clash_none}
use Rattle.graph_model.proofs.PlaceLemmas.{some_eq}
use Rattle.graph_model.proofs.TestLemmas.{name_self, name_eq, name_symm, both_of}
use Rattle.graph_model.proofs.TransactionLemmas.{none_at_first, commit_keeps}
use Rattle.run_model.specs.declared.command.Command.{Command}
use Rattle.run_model.specs.declared.answer.Answer.{Answer}
use Rattle.run_model.specs.AnsweredLines.{AnsweredLine}
use Rattle.run_model.specs.Run.{AllAnswered, HasFiles, IsLoad, IsShown, MayFill, answered_scripts, run_lines, txn_name, load_stamp, load_commit}
use Rattle.run_model.specs.Jobs.{JobState, RunState, new_job, load_journal, first_state, lines_so_far, running_of, is_empty}
use Rattle.run_model.specs.Stepped.{context_in}
use Rattle.run_model.specs.UnderWay.{AreNumbered, open_by_name, script_of, IsJob, IsUnderWay}
use Rattle.run_model.specs.Laws.{FirstIsUnderWay, SteppedRunsAreRuns}
use Rattle.run_model.proofs.LineLemmas.{numbered_lines}
use Rattle.run_model.proofs.SetLemmas.{map_get}
use Rattle.run_model.proofs.TurnLemmas.{reached_keeps}

-- ---- before the first turn

-- no transaction of a new script is open
none_open : (scripts : List (List Command)) → open_by_name (map new_job scripts) ≡ (λ by. None)
none_open scripts = λ i by. at by i
  where
    new_at : (scripts : List (List Command)) (i : ℕ) → running_of (unwrap_or (slice_get (map new_job scripts) i) (new_job [])) ≡ None
    new_at [] i = refl
    new_at (cs ∷ scripts) zero = refl
    new_at (cs ∷ scripts) (suc i) = new_at scripts i

    no_running : (t : Bool) (x : Option Running) → x ≡ None → cond t x None ≡ None
    no_running true x e = e
    no_running false x e = refl

    pass_at : (p : ℕ) → running_of (state_in (new_job []) 1 (map new_job scripts) p) ≡ None
    pass_at p = elim (nat_lt p 1) as (λ t. running_of (cond t (new_job []) (unwrap_or (slice_get (map new_job scripts) (p - 1)) (new_job []))) ≡ None) [
      | true ↦ refl
      | false ↦ new_at scripts (p - 1)
    ]

    at : (by : TxnName) → open_by_name (map new_job scripts) by ≡ None
    at by = no_running _ _ (pass_at by.job)

-- a load that the empty graph allows, as a transaction of its own that is still open
module _ (kind : Kind) (load : List Write) (allowed : AllAllowed kind empty_graph load) (within : AllByRecursion IsWithinLimits load) where
  abbrev load_run : Running
  load_run = record { start = 0; writes = load }

  abbrev loading : TxnName → Option Running
  loading by = cond (same_name by (txn_name 0 1)) (Some load_run) None

  loading_at : loading (txn_name 0 1) ≡ Some load_run
  loading_at = ap (λ t. cond t (Some load_run) None) (name_self (txn_name 0 1))

  loading_else : (by : TxnName) → same_name by (txn_name 0 1) ≡ false → loading by ≡ None
  loading_else by e = ap (λ t. cond t (Some load_run) None) e

  apart_loading : (a b : TxnName) → same_name a b ≡ false → have_clash kind (own_of loading a) (own_of loading b) ≡ false
  apart_loading a b e = elim (same_name a (txn_name 0 1)) as (λ t. same_name a (txn_name 0 1) ≡ t → have_clash kind (own_of loading a) (own_of loading b) ≡ false) [
    | true ↦ λ f.
        let other : same_name b (txn_name 0 1) ≡ false = ap (same_name b) (sym (name_eq a (txn_name 0 1) f)) ∙ name_symm b a ∙ e in
        ap (λ r. have_clash kind (own_of loading a) (writes_of_running r)) (loading_else b other) ∙ no_clash_none kind (own_of loading a)
    | false ↦ λ f. ap (λ r. have_clash kind (writes_of_running r) (own_of loading b)) (loading_else a f)
  ] refl

  are_loading : AreTransactions kind [] loading 0
  are_loading = record {
    legal = (none_at_first kind).legal;
    behind = omega arith;
    each = λ by t e. elim (same_name by (txn_name 0 1)) as (λ x. same_name by (txn_name 0 1) ≡ x → IsRunning kind [] 0 by t) [
      | true ↦ λ f. subst (λ r. IsRunning kind [] 0 by r) (some_eq load_run t (sym (ap (λ x. cond x (Some load_run) None) f) ∙ e))
          (record { started = omega arith; pinned = omega arith; allowed = allowed; within = within; unnamed = λ i c g. cc; before = λ i c g. cc })
      | false ↦ λ f. absurd (none-some t (sym (loading_else by f) ∙ e))
    ] refl;
    apart = apart_loading;
  }

  -- it commits
  pub are_loaded : 0 < length load → AreTransactions kind (load_commit load ∷ []) (λ by. None) 0
  are_loaded some =
      commit_keeps kind [] loading 0 are_loading (txn_name 0 1) (λ by. None) load_run loading_at (record { here = refl; else = λ q e. sym (loading_else q e) }) some

first_transactions : (kind : Kind) (load : List Write) → AllAllowed kind empty_graph load → AllByRecursion IsWithinLimits load → AreTransactions kind (load_journal load) (λ by. None) 0
first_transactions kind [] allowed within = none_at_first kind
first_transactions kind (w ∷ ws) allowed within = are_loaded kind (w ∷ ws) allowed within (omega arith)

first_loaded : (load : List Write) → (load ≡ []) ⊎ (slice_get (load_journal load) 0 ≡ Some (load_commit load))
first_loaded [] = inl refl
first_loaded (w ∷ ws) = inr refl

behind_load : (load : List Write) → load_stamp load ≤ length (load_journal load)
behind_load [] = omega arith
behind_load (w ∷ ws) = omega arith

-- the load is the only commit
only_load : (load : List Write) (i : ℕ) (c : Commit) → slice_get (load_journal load) i ≡ Some c → IsLoad load c
only_load [] i c e = cc
only_load (w ∷ ws) zero c e = ((λ f. some_not_none f), sym (some_eq _ c e))
  where
    some_not_none : w ∷ ws ≡ [] → ⊥
    some_not_none f = cc
only_load (w ∷ ws) (suc i) c e = cc

same_scripts : (scripts : List (List Command)) → map script_of (map new_job scripts) ≡ scripts
same_scripts [] = refl
same_scripts (cs ∷ scripts) = ap (λ xs. cs ∷ xs) (same_scripts scripts)

no_lines : (scripts : List (List Command)) (k i : ℕ) (ls : List AnsweredLine) (l : AnsweredLine) → slice_get (map (λ (j : JobState). j.lines) (map new_job scripts)) k ≡ Some ls → slice_get ls i ≡ Some l → ⊥
no_lines [] k i ls l e f = cc
no_lines (cs ∷ scripts) zero i ls l e f = none-some l (ap (λ xs. slice_get xs i) (some_eq [] ls e) ∙ f)
no_lines (cs ∷ scripts) (suc k) i ls l e f = no_lines scripts k i ls l e f

-- before the first turn the run is under way
pub first_is : FirstIsUnderWay
first_is inputs leaves are = record {
  transactions = subst (λ r. AreTransactions inputs.kind (load_journal inputs.load) r 0) (sym (none_open inputs.scripts)) (first_transactions inputs.kind inputs.load are.allowed are.within);
  loaded = first_loaded inputs.load;
  behind_load = behind_load inputs.load;
  whole = same_scripts inputs.scripts;
  each = λ k j e.
      let r = map_get new_job inputs.scripts k j e in
      subst (λ x. IsJob (context_in inputs.kind inputs.load (first_state inputs) k) x) r.2
      (record {
        numbered = refl;
        answered = tt;
        shown = omega arith;
        told = λ start f. absurd (none-some start f);
        idle = λ f. refl;
        stopped = λ f. absurd (true≢false (sym f));
        closed = λ f. refl;
        script = are.scripts k r.0 r.1;
      });
  committed = λ i c e. inl (only_load inputs.load i c e);
  begun = λ i c k j e job f. (let job_zero : c.by.job ≡ 0 = ap (λ (x : Commit). x.by.job) (only_load inputs.load i c e).1 in absurd (omega (arith, job_zero, job)));
  full = λ k i ls l e f g. absurd (no_lines inputs.scripts k i ls l e f);
}

-- ---- where all scripts have ended

commands_of : JobState → List Command
commands_of j = map (λ l. l.command) j.lines

answers_of : JobState → List Answer
answers_of j = map (λ l. l.answer) j.lines

whole_script : (j : JobState) (cs : List Command) → j.left ≡ cs → is_empty cs ≡ true → script_of j ≡ commands_of j
unfolding commands_of
whole_script j [] e f = ap (λ xs. map (λ (l : AnsweredLine). l.command) j.lines ++ xs) e ∙ append-nil _
whole_script j (c ∷ cs) e f = cc

-- each script is that of its lines
whole_scripts : (jobs : List JobState) → list_all (λ j. is_empty j.left) jobs ≡ true → map script_of jobs ≡ map commands_of jobs
whole_scripts [] e = refl
whole_scripts (j ∷ jobs) e =
    let p = both_of (is_empty j.left) (list_all (λ j. is_empty j.left) jobs) e in
    (λ i. whole_script j j.left refl p.0 i ∷ whole_scripts jobs p.1 i)

-- scripts and reports side by side are the lines
same_lines : (jobs : List JobState) → ((k : ℕ) (j : JobState) → slice_get jobs k ≡ Some j → AreNumbered 0 j.lines j.begun)
    → answered_scripts (map commands_of jobs) (map answers_of jobs) ≡ map (λ (j : JobState). j.lines) jobs
unfolding commands_of answers_of
same_lines [] each = refl
same_lines (j ∷ jobs) each = (λ i. numbered_lines 0 j.lines j.begun (each 0 j refl) i ∷ same_lines jobs (λ k x e. each (suc k) x e) i)

-- what a run by turns gives is a run
pub stepped_is_run : SteppedRunsAreRuns
unfolding commands_of answers_of
stepped_is_run inputs leaves schedule outputs are is =
    let s : RunState = is.last in
    let u : IsUnderWay inputs leaves s = reached_keeps inputs leaves schedule (first_state inputs) is.turns s (first_is inputs leaves are) is.reached in
    let scripts : inputs.scripts ≡ map commands_of s.jobs = sym u.whole ∙ whole_scripts s.jobs is.over in
    let reports : outputs.reports ≡ map answers_of s.jobs = is.reports in
    let lines : run_lines inputs outputs ≡ lines_so_far s = (λ i. answered_scripts (scripts i) (reports i)) ∙ same_lines s.jobs (λ k j e. (u.each k j e).numbered) in
    record {
      given = are;
      legal = subst (IsLegal inputs.kind) (sym is.journal) u.transactions.legal;
      loaded = subst (λ js. (inputs.load ≡ []) ⊎ (slice_get js 0 ≡ Some (load_commit inputs.load))) (sym is.journal) u.loaded;
      reported = ap length reports ∙ length-map s.jobs answers_of ∙ sym (length-map s.jobs commands_of) ∙ sym (ap length scripts);
      lines = λ k cs report e f.
          let a = map_get commands_of s.jobs k cs (ap (λ xs. slice_get xs k) (sym scripts) ∙ e) in
          let b = map_get answers_of s.jobs k report (ap (λ xs. slice_get xs k) (sym reports) ∙ f) in
          let same : a.0 ≡ b.0 = some_eq a.0 b.0 (sym a.1 ∙ b.1) in
          ap length (sym b.2) ∙ length-map (b.0).lines (λ (l : AnsweredLine). l.answer) ∙ ap (λ (j : JobState). length j.lines) (sym same) ∙ sym (length-map (a.0).lines (λ (l : AnsweredLine). l.command)) ∙ ap length a.2;
      answered = λ k ls e.
          let a = map_get (λ (j : JobState). j.lines) s.jobs k ls (ap (λ xs. slice_get xs k) (sym lines) ∙ e) in
          subst (λ js. AllAnswered (record { kind = inputs.kind; load = inputs.load; journal = js; scripts = run_lines inputs outputs; job = k + 1 }) [] ls) (sym is.journal)
          (subst (λ xs. AllAnswered (record { kind = inputs.kind; load = inputs.load; journal = s.journal; scripts = xs; job = k + 1 }) [] ls) (sym lines)
          (subst (λ xs. AllAnswered (context_in inputs.kind inputs.load s k) [] xs) a.2 (u.each k a.0 a.1).answered));
      committed = λ i c e.
          subst (λ xs. IsLoad inputs.load c ⊎ IsShown xs c) (sym lines) (u.committed i c (ap (λ js. slice_get js i) (sym is.journal) ∙ e));
      full = λ k i ls l e f g.
          subst (λ xs. MayFill inputs.kind leaves inputs.load xs) (sym lines) (u.full k i ls l (ap (λ xs. slice_get xs k) (sym lines) ∙ e) f g);
      filed = is.filed;
      files = λ k ls files e f.
          subst (λ js. HasFiles (record { kind = inputs.kind; load = inputs.load; journal = js; scripts = run_lines inputs outputs; job = k + 1 }) [] ls files) (sym is.journal)
          (subst (λ xs. HasFiles (record { kind = inputs.kind; load = inputs.load; journal = s.journal; scripts = xs; job = k + 1 }) [] ls files) (sym lines)
          (is.files k ls files (ap (λ xs. slice_get xs k) (sym lines) ∙ e) f));
    }

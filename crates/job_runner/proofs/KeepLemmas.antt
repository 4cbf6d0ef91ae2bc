-- Jobs that are under way are so behind each turn.
use Rattle.std.proofs.Common.{◌≡◌, ℕ, zero, suc, ◌+◌, ◌*◌, ◌<◌, ◌≤◌, List, [], ◌∷◌, ◌++◌, length, drop, refl, sym, ◌∙◌, ap, subst, arith, inl, inr}
use Rattle.std.specs.Prelude.{◌⊎◌, Bool, true, false, ◌==◌, map, Option, Some, None, IfSome, unwrap_or, slice_get, slice_set, sum_by}
use Rattle.std.specs.List.{flat_map, filter_map}
use Rattle.std.proofs.lemmas.List.Sums.{sum_by-append}
use Rattle.std.proofs.lemmas.Option.{slice_get_within}
use Rattle.graph_model.specs.declared.limits.TheConstants.{SPLIT_ROWS}
use Rattle.graph_model.specs.declared.write.Kind.{Kind}
use Rattle.graph_model.specs.declared.write.Write.{Write}
use Rattle.graph_model.specs.declared.journal.Commit.{Commit}
use Rattle.graph_model.specs.Graph.{Graph}
use Rattle.graph_model.specs.History.{view}
use Rattle.graph_model.specs.Inserted.{inserted, inserted_by}
use Rattle.graph_model.specs.OwnerCalls.{PassState, Core, no_pass, pass_at, inserted_here}
use Rattle.graph_model.proofs.TestLemmas.{self_eq}
use Rattle.run_model.specs.AnsweredLines.{made_by, answered_lines, newest_shown}
use Rattle.run_model.specs.Inputs.{Inputs}
use Rattle.run_model.specs.Run.{MayFill, inserted_in}
use Rattle.run_model.specs.Jobs.{lines_so_far, turn}
use Rattle.run_model.specs.UnderWay.{IsUnderWay}
use Rattle.run_model.proofs.SetLemmas.{set_cases, sum_cons}
use Rattle.run_model.proofs.TurnLemmas.{turn_keeps}
use Rattle.line_runner.specs.Kernels.{IsKeptImage}
use Rattle.line_runner.specs.Scanning.{IsReading}
use Rattle.line_runner.specs.Phases.{file_of}
use Rattle.job_runner.specs.Progress.{Progress, seats, state_of}
use Rattle.job_runner.specs.Runs.{IsUnused, writes_of_pass, files_context, AreTied, AreUnderWay}
use Rattle.job_runner.proofs.FileLemmas.{view_grows, files_to}
use Rattle.job_runner.proofs.SeatLemmas.{rest_get}
use Rattle.job_runner.proofs.TieLemmas as ties
use Rattle.job_runner.proofs.TieLemmas.{phase_fits, stop_closes, writes_open, last_behind, between_begins}

-- ---- rows that were inserted

inserted_append : (kind : Kind) (xs ys : List Write) → inserted kind (xs ++ ys) ≡ inserted kind xs + inserted kind ys
inserted_append kind xs ys = sum_by-append (inserted_by kind) xs ys

-- the writes of passes are those of their jobs' lines
passes_inserted : (kind : Kind) (ps : List PassState) (js : List Progress)
    → ((i : ℕ) (p : PassState) (job : Progress) → slice_get ps i ≡ Some p → slice_get js i ≡ Some job → writes_of_pass p ≡ filter_map made_by (answered_lines job.commands job.answers))
    → ((i : ℕ) (p : PassState) → slice_get ps i ≡ Some p → length js ≤ i → writes_of_pass p ≡ [])
    → inserted kind (flat_map (λ state. flat_map (λ ws. ws) state.made) ps) ≡ inserted_in kind (map (λ j. j.lines) (seats ps js))
passes_inserted kind [] js wrote none = refl
passes_inserted kind (p ∷ ps) [] wrote none =
    inserted_append kind (writes_of_pass p) (flat_map (λ state. flat_map (λ ws. ws) state.made) ps)
    ∙ (λ i. inserted kind (none 0 p refl (omega arith) i) + passes_inserted kind ps [] (λ i q job e f. cc) (λ i q e le. none (suc i) q e (omega arith)) i)
    ∙ nothing ps
  where
    nothing : (ps : List PassState) → 0 + inserted_in kind (map (λ j. j.lines) (seats ps [])) ≡ 0
    nothing [] = refl
    nothing (q ∷ ps) = refl
passes_inserted kind (p ∷ ps) (job ∷ js) wrote none =
    inserted_append kind (writes_of_pass p) (flat_map (λ state. flat_map (λ ws. ws) state.made) ps)
    ∙ (λ i. inserted kind (wrote 0 p job refl refl i) + passes_inserted kind ps js (λ i q other e f. wrote (suc i) q other e f) (λ i q e le. none (suc i) q e (omega (arith, le))) i)
    ∙ sym (sum_cons (λ lines. inserted kind (filter_map made_by lines)) (answered_lines job.commands job.answers) (map (λ j. j.lines) (seats ps js)))

-- ---- sums over jobs, one of which has changed

pub sum_changed : {X : Type 0} (f : X → ℕ) (xs : List X) (i : ℕ) (x y : X) → slice_get xs i ≡ Some x → sum_by f (slice_set xs i y) + f x ≡ sum_by f xs + f y
sum_changed f [] i x y e = cc
sum_changed f (z ∷ xs) zero x y e =
    let same : z ≡ x = cc in
    let a = sum_cons f y xs in let b = sum_cons f z xs in let d : f z ≡ f x = ap f same in omega (arith, a, b, d)
sum_changed f (z ∷ xs) (suc i) x y e =
    let a = sum_cons f z (slice_set xs i y) in let b = sum_cons f z xs in let d = sum_changed f xs i x y e in omega (arith, a, b, d)

pub length_set : {X : Type 0} (xs : List X) (i : ℕ) (x : X) → length (slice_set xs i x) ≡ length xs
length_set [] i x = refl
length_set (y ∷ xs) zero x = refl
length_set (y ∷ xs) (suc i) x = ap suc (length_set xs i x)

-- two places that a test tells apart
pub apart_places : (i k : ℕ) → (i == k) ≡ false → suc i ≡ suc k → ⊥
apart_places i k other e = let same : i ≡ k = omega (arith, e) in absurd (let no_one : true ≡ false = sym (self_eq k) ∙ ap (λ n. n == k) (sym same) ∙ other in cc)

-- what holds of one graph with what is there, holds of an equal one
pub if_same : {X : Type 0} (x : Option X) (P : Graph → X → Type 0) {g h : Graph} → g ≡ h → IfSome x (P g) → IfSome x (P h)
if_same None P e is = tt
if_same (Some y) P e is = subst (λ g. P g y) e is

-- ---- a job whose turn it isn't

-- it keeps its tie while the journal grows
tied_grows : (old new : Core) (pass : PassState) (k : ℕ) (job : Progress) → AreTied old pass k job → new.kind ≡ old.kind → (rest : List Commit) → new.journal ≡ old.journal ++ rest
    → unwrap_or pass.start 0 ≤ length old.journal → newest_shown (answered_lines job.commands job.answers) ≤ length old.journal → AreTied new pass k job
tied_grows old new pass k job tied kind rest journal within shown =
    let same : (start : ℕ) (own : List Write) → start ≤ length old.journal → view old.kind old.journal start own ≡ view new.kind new.journal start own = λ start own le.
    sym (view_grows old.kind old.journal rest start own le) ∙ (λ i. view (sym kind i) (sym journal i) start own) in
    record {
      number = tied.number;
      answered = tied.answered;
      phase_is = tied.phase_is;
      wrote = tied.wrote;
      counted = tied.counted;
      by_txn = tied.by_txn;
      last = tied.last;
      begins = tied.begins;
      room = tied.room;
      reads = λ c more e. if_same job.reading (λ g reading. IsReading g c reading) (same (unwrap_or pass.start 0) pass.own within) (tied.reads c more e);
      small = tied.small;
      kept = if_same job.image IsKeptImage (same (unwrap_or pass.start 0) pass.own within) tied.kept;
      files = files_to (files_context old) (files_context new) (length old.journal) (sym kind) same [] (answered_lines job.commands job.answers) (map file_of job.tables) shown tied.files;
    }

module _ (inputs : Inputs) (core : Core) (jobs : List Progress) (u : AreUnderWay inputs core jobs) where
  -- the rows that were inserted are those of the load and of the lines
  pub inserted_is : inserted_here core ≡ inserted inputs.kind inputs.load + inserted_in inputs.kind (lines_so_far (state_of core jobs))
  inserted_is = by_passes core.passes refl
    where
      by_passes : (ps : List PassState) → core.passes ≡ ps → inserted_here core ≡ inserted inputs.kind inputs.load + inserted_in inputs.kind (lines_so_far (state_of core jobs))
      by_passes [] e = absurd (let some : length jobs < length core.passes = u.passes in let none : length core.passes ≡ 0 = ap length e in omega arith)
      by_passes (p ∷ ps) e =
          (λ i. inserted (u.kind i) (flat_map (λ state. flat_map (λ ws. ws) state.made) (e i)))
          ∙ inserted_append inputs.kind (writes_of_pass p) (flat_map (λ state. flat_map (λ ws. ws) state.made) ps)
          ∙ (λ i. inserted inputs.kind ((ap (λ xs. writes_of_pass (unwrap_or (slice_get xs 0) no_pass)) (sym e) ∙ u.loaded) i) + inserted inputs.kind (flat_map (λ state. flat_map (λ ws. ws) state.made) (sym (ap (drop 1) e) i)))
          ∙ ap (λ n. inserted inputs.kind inputs.load + n) (passes_inserted inputs.kind (drop 1 core.passes) jobs
          (λ i q job f g. ap writes_of_pass (sym (here i q f)) ∙ (u.each i job g).wrote)
          (λ i q f le. ap writes_of_pass (sym (here i q f)) ∙ ap (flat_map (λ ws. ws)) (u.unused i le).made))
        where
          here : (i : ℕ) (q : PassState) → slice_get (drop 1 core.passes) i ≡ Some q → pass_at core (suc i) ≡ q
          here i q f = ap (λ x. unwrap_or x no_pass) (sym (rest_get core.passes i) ∙ f)

  pub fills : SPLIT_ROWS * core.leaves ≤ inserted_here core → MayFill inputs.kind core.leaves inputs.load (lines_so_far (state_of core jobs))
  fills le = subst (λ n. SPLIT_ROWS * core.leaves ≤ n) inserted_is le

  -- the start of each job's transaction, and what it has shown, lie within the journal
  pub within : (k : ℕ) (job : Progress) → slice_get jobs k ≡ Some job → unwrap_or (pass_at core (suc k)).start 0 ≤ length core.journal
  within k job there = by_start (pass_at core (suc k)).start refl
    where
      by_start : (s : Option ℕ) → (pass_at core (suc k)).start ≡ s → unwrap_or s 0 ≤ length core.journal
      by_start None e = omega arith
      by_start (Some start) e = (ties.txn_is_open inputs core jobs u k job there start e).seen

  -- ONE JOB HAS CHANGED, and the engine with its pass alone
  module _ (k : ℕ) (job : Progress) (there : slice_get jobs k ≡ Some job) (new : Core) (next : Progress) (full : Bool)
      (filling : full ≡ true → SPLIT_ROWS * core.leaves ≤ inserted_here core)
      (state : state_of new (slice_set jobs k next) ≡ turn core.kind (state_of core jobs) (suc k) full)
      (kind : new.kind ≡ core.kind) (leaves : new.leaves ≡ core.leaves) (passes : length new.passes ≡ length core.passes)
      (others : (p : ℕ) → (p ≡ suc k → ⊥) → pass_at new p ≡ pass_at core p)
      (rest : List Commit) (journal : new.journal ≡ core.journal ++ rest)
      (tied : AreTied new (pass_at new (suc k)) k next) where
    pub job_keeps : AreUnderWay inputs new (slice_set jobs k next)
    job_keeps = record {
      given = u.given;
      kind = kind ∙ u.kind;
      state = subst (λ n. IsUnderWay inputs n (state_of new (slice_set jobs k next))) (sym leaves)
          (subst (IsUnderWay inputs core.leaves) (sym (state ∙ ap (λ x. turn x (state_of core jobs) (suc k) full) u.kind))
          (turn_keeps inputs core.leaves (state_of core jobs) (suc k) full u.state (λ e. fills (filling e))));
      loaded = ap writes_of_pass (others 0 (λ e. absurd (omega (arith, e)))) ∙ u.loaded;
      closed = ap (λ (x : PassState). x.start) (others 0 (λ e. absurd (omega (arith, e)))) ∙ u.closed;
      passes = omega (arith, length_set jobs k next, passes, u.passes);
      count = length_set jobs k next ∙ u.count;
      unused = λ i le. subst IsUnused (sym (others (suc i) (λ e. absurd (omega (arith, e, length_set jobs k next, le, slice_get_within jobs k job there))))) (u.unused i (omega (arith, length_set jobs k next, le)));
      each = λ i y at. by_place i y (set_cases jobs k i next y (slice_get_within jobs k job there) at);
    }
      where
        by_place : (i : ℕ) (y : Progress) → ((i ≡ k) × (next ≡ y)) ⊎ (((i == k) ≡ false) × (slice_get jobs i ≡ Some y)) → AreTied new (pass_at new (suc i)) i y
        by_place i y (inl same) = subst (λ z. AreTied new (pass_at new (suc i)) i z) same.1 (subst (λ n. AreTied new (pass_at new (suc n)) n next) (sym same.0) tied)
        by_place i y (inr other) =
            let away : suc i ≡ suc k → ⊥ = λ e. apart_places i k other.0 e in
            subst (λ p. AreTied new p i y) (sym (others (suc i) away))
            (tied_grows core new (pass_at core (suc i)) i y (u.each i y other.1) kind rest journal (within i y other.1) (ties.its inputs core jobs u i y other.1).shown)

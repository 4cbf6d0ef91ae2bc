-- What a turn came to, for the jobs as a whole.
use Rattle.std.proofs.Common.{◌≡◌, ℕ, zero, suc, ◌+◌, ◌<◌, ◌≤◌, List, [], ◌∷◌, length, refl, sym, ◌∙◌, ap, subst, arith, inl, inr}
use Rattle.std.specs.Prelude.{◌⊎◌, Bool, true, false, ◌==◌, nat_lt, Option, Some, None, unwrap_or, slice_get, slice_set, Result, Ok, Err, IfOk, OnOk, OnErr}
use Rattle.std.proofs.lemmas.Bool.{ne_eqb, cases_eq}
use Rattle.std.proofs.lemmas.Bool.Decides.{nat_tests}
use Rattle.std.proofs.lemmas.Option.{slice_get_within}
use Rattle.items.specs.declared.memory.NoMemory.{NoMemory}
use Rattle.graph_model.specs.OwnerCalls.{PassState, Core, no_pass, pass_at, with_current, ended_pass}
use Rattle.run_model.specs.Inputs.{Inputs}
use Rattle.run_model.proofs.SetLemmas.{get_set_else, set_cases}
use Rattle.line_runner.specs.declared.phase.Phase.{Phase}
use Rattle.line_runner.specs.declared.phase.Phase.TheVariants.{Between, Open, Skipping, GivenUp}
use Rattle.job_runner.specs.declared.turn.JobTurn.{JobTurn}
use Rattle.job_runner.specs.declared.turn.JobTurn.TheVariants as turns
use Rattle.line_runner.specs.Phases.{IsPhase}
use Rattle.line_runner.specs.Lines.{given_up}
use Rattle.job_runner.specs.Progress.{Progress, is_over, IsReady, TakesTurn, TookTurn}
use Rattle.job_runner.specs.Runs.{AreUnderWay, Turns, Goes, HoldsPhase, AreHeld, IsStuck}
use Rattle.line_runner.proofs.CoreLemmas.{get_set}
use Rattle.job_runner.proofs.TieLemmas as ties
use Rattle.job_runner.proofs.KeepLemmas.{length_set, apart_places}
use Rattle.job_runner.proofs.StepLemmas.{at_hand, takes_on, goes_on, passes_over, stays}

-- a list with what it has
pub set_same : {X : Type 0} (xs : List X) (i : ℕ) (x : X) → slice_get xs i ≡ Some x → slice_set xs i x ≡ xs
set_same [] i x e = cc
set_same (y ∷ xs) zero x e = let same : y ≡ x = cc in ap (λ z. z ∷ xs) (sym same)
set_same (y ∷ xs) (suc i) x e = ap (λ zs. y ∷ zs) (set_same xs i x e)

-- a phase that the pass has is one that it holds
pub held_phase : (phase : Phase) (start : Option ℕ) → IsPhase phase start → HoldsPhase phase start
held_phase Between start is = is
held_phase Open start is = is
held_phase Skipping start is = is
held_phase GivenUp start is = absurd is

-- nothing else changes where one pass does
pub else_pass : (core : Core) (k p : ℕ) (state : PassState) → (p ≡ suc k → ⊥) → unwrap_or (slice_get (slice_set core.passes (suc k) state) p) no_pass ≡ pass_at core p
else_pass core k p state away = ap (λ x. unwrap_or x no_pass) (get_set_else core.passes (suc k) p state (ne_eqb p (suc k) away))

-- one pass has been closed, and its job has given up
pub closes_one : (core : Core) (jobs : List Progress) (k : ℕ) (job : Progress) → slice_get jobs k ≡ Some job → AreHeld core jobs → (new : Core) (next : Progress) → next.number ≡ job.number → next.phase ≡ GivenUp
    → length new.passes ≡ length core.passes → ((p : ℕ) → (p ≡ suc k → ⊥) → pass_at new p ≡ pass_at core p) → (pass_at new (suc k)).start ≡ None → AreHeld new (slice_set jobs k next)
closes_one core jobs k job there held new next number phase passes others closed = record {
  passes = omega (arith, length_set jobs k next, passes, held.passes);
  closed = ap (λ (x : PassState). x.start) (others 0 (λ e. absurd (omega (arith, e)))) ∙ held.closed;
  unused = λ i le. ap (λ (x : PassState). x.start) (others (suc i) (λ e. absurd (omega (arith, e, length_set jobs k next, le, slice_get_within jobs k job there)))) ∙ held.unused i (omega (arith, length_set jobs k next, le));
  each = λ i y at. by_place i y (set_cases jobs k i next y (slice_get_within jobs k job there) at);
}
  where
    by_place : (i : ℕ) (y : Progress) → ((i ≡ k) × (next ≡ y)) ⊎ (((i == k) ≡ false) × (slice_get jobs i ≡ Some y)) → (y.number ≡ suc i) × HoldsPhase y.phase (pass_at new (suc i)).start
    by_place i y (inl same) = (
      ap (λ (x : Progress). x.number) (sym same.1) ∙ number ∙ (held.each k job there).0 ∙ ap suc (sym same.0),
      subst (λ p. HoldsPhase p (pass_at new (suc i)).start) (sym phase ∙ ap (λ (x : Progress). x.phase) same.1) (ap (λ n. (pass_at new (suc n)).start) same.0 ∙ closed),
    )
    by_place i y (inr other) =
        let old = held.each i y other.1 in
        (old.0, subst (λ (p : PassState). HoldsPhase y.phase p.start) (sym (others (suc i) (apart_places i k other.0))) old.1)

-- jobs under way are held
pub are_held : (inputs : Inputs) (core : Core) (jobs : List Progress) → AreUnderWay inputs core jobs → AreHeld core jobs
are_held inputs core jobs u = record {
  passes = u.passes;
  closed = u.closed;
  unused = λ k le. (u.unused k le).closed;
  each = λ k job at. ((u.each k job at).number, held_phase job.phase (pass_at core (suc k)).start (u.each k job at).phase_is);
}

-- what a job's giving up leaves
pub gives_up_one : (core : Core) (jobs : List Progress) (k : ℕ) (job : Progress) → slice_get jobs k ≡ Some job → AreHeld core jobs → suc k < length core.passes → (next : Progress) → next ≡ record job { phase = GivenUp; reading = None; image = None }
    → AreHeld (given_up (record core { selected = suc k }) job.phase) (slice_set jobs k next) × ((given_up (record core { selected = suc k }) job.phase).journal ≡ core.journal)
    × ((pass_at (given_up (record core { selected = suc k }) job.phase) (suc k)).start ≡ None) × ((p : ℕ) → (p ≡ suc k → ⊥) → pass_at (given_up (record core { selected = suc k }) job.phase) p ≡ pass_at core p)
gives_up_one core jobs k job there held inside next is = by_phase job.phase (held.each k job there).1
  where
    still : (pass_at core (suc k)).start ≡ None → AreHeld (record core { selected = suc k }) (slice_set jobs k next) × ((record core { selected = suc k }).journal ≡ core.journal) × ((pass_at (record core { selected = suc k }) (suc k)).start ≡ None) × ((p : ℕ) → (p ≡ suc k → ⊥) → pass_at (record core { selected = suc k }) p ≡ pass_at core p)
    still closed = (closes_one core jobs k job there held (record core { selected = suc k }) next (ap (λ (x : Progress). x.number) is) (ap (λ (x : Progress). x.phase) is) refl (λ p away. refl) closed, refl, closed, λ p away. refl)

    by_phase : (phase : Phase) → HoldsPhase phase (pass_at core (suc k)).start
        → AreHeld (given_up (record core { selected = suc k }) phase) (slice_set jobs k next) × ((given_up (record core { selected = suc k }) phase).journal ≡ core.journal)
        × ((pass_at (given_up (record core { selected = suc k }) phase) (suc k)).start ≡ None) × ((p : ℕ) → (p ≡ suc k → ⊥) → pass_at (given_up (record core { selected = suc k }) phase) p ≡ pass_at core p)
    by_phase Between closed = still closed
    by_phase Open opened =
        let ended : PassState = ended_pass (record core { selected = suc k }) in
        let none : (pass_at (with_current (record core { selected = suc k }) ended) (suc k)).start ≡ None = ap (λ (x : PassState). x.start) (get_set core.passes (suc k) ended no_pass inside) in (
          closes_one core jobs k job there held (with_current (record core { selected = suc k }) ended) next (ap (λ (x : Progress). x.number) is) (ap (λ (x : Progress). x.phase) is) (length_set core.passes (suc k) ended) (λ p away. else_pass core k p ended away) none,
          refl,
          none,
          λ p away. else_pass core k p ended away,
        )
    by_phase Skipping closed = still closed
    by_phase GivenUp closed = still closed

-- ---- a turn of the job with a number

module _ (core : Core) (jobs : List Progress) (k : ℕ) (job : Progress) (there : slice_get jobs k ≡ Some job) (number : ℕ) (is : number ≡ suc k) where
  -- it was passed over
  pub was_over : (inputs : Inputs) → AreUnderWay inputs core jobs → is_over job ≡ true → Turns core jobs number false core (slice_set jobs k job)
  was_over inputs u over = subst (λ n. Turns core jobs n false core (slice_set jobs k job)) (sym is)
      (subst (λ js. Turns core jobs (suc k) false core js) (sym (set_same jobs k job there)) (passes_over inputs core jobs u k job there over))

  pub stays_over : is_over job ≡ true → Goes jobs number (slice_set jobs k job)
  stays_over over = subst (Goes jobs number) (sym (set_same jobs k job there))
      (stays jobs number (λ i other e f g.
      let same : k ≡ i = omega (arith, is, e) in
      let equal : ◌≡◌ {A = Option Progress} (Some job) (Some other) = sym there ∙ ap (slice_get jobs) same ∙ f in
      let one : job ≡ other = cc in
      let both : true ≡ false = sym over ∙ ap is_over one ∙ g in absurd (let never : true ≡ false = both in cc)))

  module _ (inputs : Inputs) (u : AreUnderWay inputs core jobs) (selected : Core) (select : selected ≡ record core { selected = number }) where
    now_is : selected ≡ record core { selected = suc k }
    now_is = select ∙ (λ i. record core { selected = is i })

    pub ready_here : IsReady selected job
    ready_here = subst (λ x. IsReady x job) (sym now_is) (ties.ready inputs core jobs u k job there)

    module _ (going : is_over job ≡ false) (new : Core) (next : Progress) where
      -- what the call answers
      abbrev pub Says : JobTurn → Result Bool NoMemory → Type 0
      Says turns.More result = result ≡ Ok false
      Says turns.Ended result = result ≡ Ok true
      Says turns.NoMemory result = OnOk result ⊥

      turned : (ended : Bool) → is_over next ≡ ended → TookTurn selected job turns.More next new ⊎ TookTurn selected job turns.Ended next new → Turns core jobs number ended new (slice_set jobs k next) × Goes jobs number (slice_set jobs k next)
      turned ended over took =
          let h = at_hand core jobs k job there going in
          let takes = subst (λ x. TakesTurn x job h.0 next new) now_is (by_either took) in (
            subst (λ n. Turns core jobs n ended new (slice_set jobs k next)) (sym is) (takes_on core jobs k job there going inputs u new next ended over h.0 h.1 h.2 takes),
            subst (λ n. Goes jobs n (slice_set jobs k next)) (sym is) (goes_on core jobs k job there going inputs u new next h.0 h.1 h.2 takes),
          )
        where
          by_either : TookTurn selected job turns.More next new ⊎ TookTurn selected job turns.Ended next new
              → TakesTurn selected job ((at_hand core jobs k job there going).0) next new
          by_either (inl t) = let h = at_hand core jobs k job there going in t.1 h.0 h.1 h.2
          by_either (inr t) = let h = at_hand core jobs k job there going in t.1 h.0 h.1 h.2

      pub took_turns : (turn : JobTurn) → TookTurn selected job turn next new → (result : Result Bool NoMemory) → Says turn result → IfOk result (λ ended. Turns core jobs number ended new (slice_set jobs k next))
      took_turns turns.More took result says = subst (λ r. IfOk r (λ ended. Turns core jobs number ended new (slice_set jobs k next))) (sym says) (turned false took.0 (inl took)).0
      took_turns turns.Ended took result says = subst (λ r. IfOk r (λ ended. Turns core jobs number ended new (slice_set jobs k next))) (sym says) (turned true took.0 (inr took)).0
      took_turns turns.NoMemory took (Ok ended) says = absurd says
      took_turns turns.NoMemory took (Err e) says = tt

      pub took_goes : (turn : JobTurn) → TookTurn selected job turn next new → (result : Result Bool NoMemory) → Says turn result → OnOk result (Goes jobs number (slice_set jobs k next))
      took_goes turns.More took result says = subst (λ r. OnOk r (Goes jobs number (slice_set jobs k next))) (sym says) (turned false took.0 (inl took)).1
      took_goes turns.Ended took result says = subst (λ r. OnOk r (Goes jobs number (slice_set jobs k next))) (sym says) (turned true took.0 (inr took)).1
      took_goes turns.NoMemory took (Ok ended) says = absurd says
      took_goes turns.NoMemory took (Err e) says = tt

      pub took_stuck : (turn : JobTurn) → TookTurn selected job turn next new → (result : Result Bool NoMemory) → Says turn result → OnErr result (IsStuck core new (slice_set jobs k next))
      took_stuck turns.More took result says = subst (λ r. OnErr r (IsStuck core new (slice_set jobs k next))) (sym says) tt
      took_stuck turns.Ended took result says = subst (λ r. OnErr r (IsStuck core new (slice_set jobs k next))) (sym says) tt
      took_stuck turns.NoMemory took (Ok ended) says = tt
      took_stuck turns.NoMemory took (Err e) says =
          let up : new ≡ given_up (record core { selected = suc k }) job.phase = took.0 ∙ ap (λ x. given_up x job.phase) now_is in
          let one = gives_up_one core jobs k job there (are_held inputs core jobs u) (ties.inside inputs core jobs u k job there) next took.1 in
          subst (λ x. IsStuck core x (slice_set jobs k next)) (sym up) (record { held = one.0; journal = one.1 })

-- the passes of the jobs so far are closed, and that of one more
pub closed_more : (core new : Core) (i : ℕ) → ((k : ℕ) → k < i → (pass_at core (suc k)).start ≡ None) → (pass_at new (suc i)).start ≡ None → ((p : ℕ) → (p ≡ suc i → ⊥) → pass_at new p ≡ pass_at core p)
    → (k : ℕ) → k < i + 1 → (pass_at new (suc k)).start ≡ None
closed_more core new i before here others k lt = elim (cases_eq k i) as (λ _. (pass_at new (suc k)).start ≡ None) [
  | inl same ↦ ap (λ n. (pass_at new (suc n)).start) same ∙ here
  | inr other ↦ ap (λ (x : PassState). x.start) (others (suc k) (λ e. other (omega (arith, e)))) ∙ before k (omega (arith, less k i lt other))
]
  where
    less : (k i : ℕ) → k < i + 1 → (k ≡ i → ⊥) → k < i
    less k i lt other = omega (arith, lt, other)

-- so all are
pub all_closed : (core : Core) (jobs : List Progress) (n : ℕ) → AreHeld core jobs → length jobs ≤ n → ((k : ℕ) → k < n → (pass_at core (suc k)).start ≡ None) → (p : ℕ) → (pass_at core p).start ≡ None
all_closed core jobs n held le closed zero = held.closed
all_closed core jobs n held le closed (suc k) = elim (nat_lt k n) as (λ b. nat_lt k n ≡ b → (pass_at core (suc k)).start ≡ None) [
  | true ↦ λ e. closed k (below e)
  | false ↦ λ e. held.unused k (beyond e)
] refl
  where
    below : nat_lt k n ≡ true → k < n
    below e = grind (arith, nat_tests)

    beyond : nat_lt k n ≡ false → length jobs ≤ k
    beyond e = let more : n ≤ k = grind (arith, nat_tests) in omega (arith, more, le)

-- What the latest transactions of passes have after one pass has changed, and the list of the open ones.
use Rattle.std.proofs.Common.{◌≡◌, ℕ, zero, suc, ◌+◌, ◌-◌, ◌<◌, ◌≤◌, List, [], ◌∷◌, length, refl, sym, ◌∙◌, ap, subst, cond, arith, inl, inr}
use Rattle.std.specs.Prelude.{◌⊎◌, Bool, true, false, ◌==◌, ◌&&◌, nat_lt, Option, Some, None, slice_get, slice_set, unwrap_or}
use Rattle.std.proofs.lemmas.Bool.Decides.{nat_tests}
use Rattle.graph_model.specs.declared.journal.TxnName.{TxnName}
use Rattle.graph_model.specs.Conflict.{OpenTxn, same_name}
use Rattle.graph_model.specs.Transactions.{Running, Changes, IsListed}
use Rattle.graph_model.specs.Passes.{latest_name, of_latest, revised, state_in, listed_if, open_txns_of}
use Rattle.graph_model.proofs.TestLemmas.{self_eq, eq_of, name_self}
use Rattle.graph_model.proofs.PlaceLemmas.{some_eq}

-- ---- one of the open transactions changes

-- where another value stands at one name alone, that name has changed
pub changes_at : (by : TxnName) (old new : TxnName → Option Running) (to : Option Running) → ((q : TxnName) → new q ≡ cond (same_name q by) to (old q)) → Changes by old new to
changes_at by old new to each = record {
  here = each by ∙ ap (λ t. cond t to (old by)) (name_self by);
  else = λ q e. each q ∙ ap (λ t. cond t to (old q)) e;
}

module _ {S X : Type 0} (number : S → ℕ) (part : S → X) (none : X) (pass : ℕ → S) (p : ℕ) where
  -- the latest transaction has what its pass says
  pub latest_here : of_latest number part none pass (latest_name number pass p) ≡ part (pass p)
  latest_here = ap (λ t. cond t (part (pass p)) none) (self_eq (number (pass p)))

  module _ (state : S) where
    -- It has changed at one name alone, where the pass has nothing at its other numbers before and after.
    put_at : (n : ℕ) (x : X) → cond (n == number state) (part state) none ≡ x
        → ((m : ℕ) → (m == n) ≡ false → (cond (m == number state) (part state) none ≡ none) × (cond (m == number (pass p)) (part (pass p)) none ≡ none))
        → (q : TxnName) → of_latest number part none (revised pass p state) q ≡ cond (same_name q (record { job = p; number = n })) x (of_latest number part none pass q)
    put_at n x here others q = elim (q.job == p) as (λ t. (q.job == p) ≡ t → cond (q.number == number (cond t state (pass q.job))) (part (cond t state (pass q.job))) none ≡ cond (t && (q.number == n)) x (of_latest number part none pass q)) [
      | true ↦ λ e. elim (q.number == n) as (λ s. (q.number == n) ≡ s → cond (q.number == number state) (part state) none ≡ cond s x (of_latest number part none pass q)) [
        | true ↦ λ f. ap (λ m. cond (m == number state) (part state) none) (eq_of q.number n f) ∙ here
        | false ↦ λ f. let rest = others q.number f in
            rest.0 ∙ sym (ap (λ k. cond (q.number == number (pass k)) (part (pass k)) none) (eq_of q.job p e) ∙ rest.1)
      ] refl
      | false ↦ λ e. refl
    ] refl

    other_number : (m n k : ℕ) → (m == n) ≡ false → k ≡ n → (m == k) ≡ false
    other_number m n k e same = ap (λ x. m == x) same ∙ e

    off : (t : Bool) (x : X) → t ≡ false → cond t x none ≡ none
    off t x e = ap (λ s. cond s x none) e

    nothing : (t : Bool) (x : X) → x ≡ none → cond t x none ≡ none
    nothing true x e = e
    nothing false x e = refl

    -- the pass's latest transaction goes on
    pub put_same : number state ≡ number (pass p) → (q : TxnName) → of_latest number part none (revised pass p state) q ≡ cond (same_name q (latest_name number pass p)) (part state) (of_latest number part none pass q)
    put_same same = put_at (number (pass p)) (part state)
        (ap (λ t. cond t (part state) none) (ap (λ k. number (pass p) == k) same ∙ self_eq (number (pass p))))
        (λ m e. (off _ _ (other_number m (number (pass p)) (number state) e same), off _ _ e))

    -- it has ended, whatever number the pass comes to
    pub put_ended : part state ≡ none → (q : TxnName) → of_latest number part none (revised pass p state) q ≡ cond (same_name q (latest_name number pass p)) none (of_latest number part none pass q)
    put_ended ended = put_at (number (pass p)) none (nothing _ _ ended) (λ m e. (nothing _ _ ended, off _ _ e))

    -- the next one begins, where none was open
    pub put_next : part (pass p) ≡ none → (q : TxnName) → of_latest number part none (revised pass p state) q ≡ cond (same_name q (record { job = p; number = number state })) (part state) (of_latest number part none pass q)
    put_next closed = put_at (number state) (part state) (ap (λ t. cond t (part state) none) (self_eq (number state)))
        (λ m e. (off _ _ e, nothing _ _ closed))

module _ {S : Type 0} (number : S → ℕ) (current : S → Option Running) (pass : ℕ → S) (p : ℕ) (state : S) where
  -- a step of an open transaction that goes on, or ends, changes it alone
  pub changes_latest : (number state ≡ number (pass p)) ⊎ (current state ≡ None)
      → Changes (latest_name number pass p) (of_latest number current None pass) (of_latest number current None (revised pass p state)) (current state)
  changes_latest is = changes_at _ _ _ _ (elim is as (λ _. (q : TxnName) → of_latest number current None (revised pass p state) q ≡ cond (same_name q (latest_name number pass p)) (current state) (of_latest number current None pass q)) [
    | inl same ↦ put_same number current None pass p state same
    | inr ended ↦ λ q. put_ended number current None pass p state ended q ∙ ap (λ x. cond (same_name q (latest_name number pass p)) x (of_latest number current None pass q)) (sym ended)
  ])

  -- a begin where none is open changes the next one alone
  pub changes_next : current (pass p) ≡ None
      → Changes (record { job = p; number = number state }) (of_latest number current None pass) (of_latest number current None (revised pass p state)) (current state)
  changes_next closed = changes_at _ _ _ _ (put_next number current None pass p state closed)

-- ---- passes in a list

-- the list with one state set has that state at its pass
pub state_in-set : {S : Type 0} (other : S) (from : ℕ) (states : List S) (i : ℕ) (state : S) → i < length states → (q : ℕ) → state_in other from (slice_set states i state) q ≡ revised (state_in other from states) (from + i) state q
state_in-set {S = S} other from states i state inside q = elim (nat_lt q from) as (λ t. nat_lt q from ≡ t → cond t other (unwrap_or (slice_get (slice_set states i state) (q - from)) other) ≡ cond (q == (from + i)) state (cond t other (unwrap_or (slice_get states (q - from)) other))) [
  | true ↦ λ e. let away : (q == (from + i)) ≡ false = grind (arith, nat_tests) in ap (λ t. cond t state other) (sym away)
  | false ↦ λ e. let past : from ≤ q = grind (arith, nat_tests) in let place : (q == (from + i)) ≡ ((q - from) == i) = grind (arith, nat_tests) in
      at_place states i (q - from) inside ∙ ap (λ t. cond t state (unwrap_or (slice_get states (q - from)) other)) (sym place)
] refl
  where
    at_place : (xs : List S) (i j : ℕ) → i < length xs → unwrap_or (slice_get (slice_set xs i state) j) other ≡ cond (j == i) state (unwrap_or (slice_get xs j) other)
    at_place [] i j lt = absurd (omega arith)
    at_place (x ∷ xs) zero zero lt = ap (λ t. cond t state x) (sym (self_eq 0))
    at_place (x ∷ xs) zero (suc j) lt = let away : (suc j == 0) ≡ false = grind (arith, nat_tests) in ap (λ t. cond t state (unwrap_or (slice_get xs j) other)) (sym away)
    at_place (x ∷ xs) (suc i) zero lt = let away : (0 == suc i) ≡ false = grind (arith, nat_tests) in ap (λ t. cond t state x) (sym away)
    at_place (x ∷ xs) (suc i) (suc j) lt = let same : (suc j == suc i) ≡ (j == i) = grind (arith, nat_tests) in
        at_place xs i j (omega arith) ∙ ap (λ t. cond t state (unwrap_or (slice_get xs j) other)) (sym same)

module _ {S : Type 0} (number : S → ℕ) (current : S → Option Running) where
  -- what stands in the list of open transactions is open of one of the passes
  abbrev pub Found : ℕ → List S → OpenTxn → Type 0
  Found from states x = (j : ℕ) × (s : S) × (t : Running) × (slice_get states j ≡ Some s) × (current s ≡ Some t) × (x ≡ record { by = record { job = from + j; number = number s }; writes = t.writes })

  shift : (from j : ℕ) → from + 1 + j ≡ from + suc j
  shift from j = omega arith

  pub found_in : (from : ℕ) (states : List S) (i : ℕ) (x : OpenTxn) → slice_get (open_txns_of number current from states) i ≡ Some x → Found from states x
  found_in from [] i x e = cc
  found_in from (s ∷ states) i x e = by_current (current s) refl (λ k h. later (found_in (from + 1) states k x h)) i e
    where
      later : Found (from + 1) states x → Found from (s ∷ states) x
      later r = (suc r.0, r.1, r.2, r.3, r.4, r.5 ∙ ap (λ n. record { by = record { job = n; number = number r.1 }; writes = (r.2).writes }) (shift from r.0))

      by_current : (c : Option Running) → current s ≡ c → ((k : ℕ) → slice_get (open_txns_of number current (from + 1) states) k ≡ Some x → Found from (s ∷ states) x)
          → (i : ℕ) → slice_get (listed_if c (record { job = from; number = number s }) (open_txns_of number current (from + 1) states)) i ≡ Some x → Found from (s ∷ states) x
      by_current None f rest i h = rest i h
      by_current (Some t) f rest zero h = let same : from ≡ from + 0 = omega arith in
          (0, s, t, refl, f, sym (some_eq _ _ h) ∙ ap (λ n. record { by = record { job = n; number = number s }; writes = t.writes }) same)
      by_current (Some t) f rest (suc i) h = rest i h

  in_found : (from : ℕ) (states : List S) (j : ℕ) (s : S) (t : Running) → slice_get states j ≡ Some s → current s ≡ Some t
      → (i : ℕ) × (slice_get (open_txns_of number current from states) i ≡ Some (record { by = record { job = from + j; number = number s }; writes = t.writes }))
  in_found from [] j s t at opened = cc
  in_found from (r ∷ states) zero s t at opened =
      let same : r ≡ s = some_eq r s at in
      let none : from + 0 ≡ from = omega arith in
      subst (λ c. (i : ℕ) × (slice_get (listed_if c (record { job = from; number = number r }) (open_txns_of number current (from + 1) states)) i ≡ Some (record { by = record { job = from + 0; number = number s }; writes = t.writes }))) (sym (ap current same ∙ opened))
      (0, (λ i. Some (record { by = record { job = sym none i; number = number (same i) }; writes = t.writes })))
  in_found from (r ∷ states) (suc j) s t at opened =
      let g = in_found (from + 1) states j s t at opened in
      let here : slice_get (open_txns_of number current (from + 1) states) g.0 ≡ Some (record { by = record { job = from + suc j; number = number s }; writes = t.writes }) = g.1 ∙ ap (λ n. Some (record { by = record { job = n; number = number s }; writes = t.writes })) (shift from j) in
      (elim (current r) as (λ c. (i : ℕ) × (slice_get (listed_if c (record { job = from; number = number r }) (open_txns_of number current (from + 1) states)) i ≡ Some (record { by = record { job = from + suc j; number = number s }; writes = t.writes }))) [
        | None ↦ (g.0, here)
        | Some u ↦ (suc g.0, here)
      ])

  module _ (other : S) (closed : current other ≡ None) (from : ℕ) (states : List S) where
    abbrev running : TxnName → Option Running
    running = of_latest number current None (state_in other from states)

    -- what is open under a name is open of a pass of the list
    abbrev OpenAt : TxnName → Running → Type 0
    OpenAt q t = (s : S) × (slice_get states (q.job - from) ≡ Some s) × (current s ≡ Some t) × (q.number ≡ number s) × (from ≤ q.job)

    open_at : (q : TxnName) (t : Running) → running q ≡ Some t → OpenAt q t
    open_at q t e = by_job (nat_lt q.job from) refl e
      where
        never_open : (s : Bool) → cond s (current other) None ≡ Some t → OpenAt q t
        never_open true h = let no : ◌≡◌ {A = Option Running} None (Some t) = sym closed ∙ h in cc
        never_open false h = cc

        by_number : (s : S) → slice_get states (q.job - from) ≡ Some s → from ≤ q.job → (b : Bool) → (q.number == number s) ≡ b → cond b (current s) None ≡ Some t → OpenAt q t
        by_number s at past true g h = (s, at, h, eq_of q.number (number s) g, past)
        by_number s at past false g h = cc

        by_place : from ≤ q.job → (x : Option S) → slice_get states (q.job - from) ≡ x → cond (q.number == number (unwrap_or x other)) (current (unwrap_or x other)) None ≡ Some t → OpenAt q t
        by_place past None at h = never_open _ h
        by_place past (Some s) at h = by_number s at past (q.number == number s) refl h

        by_job : (b : Bool) → nat_lt q.job from ≡ b → cond (q.number == number (cond b other (unwrap_or (slice_get states (q.job - from)) other))) (current (cond b other (unwrap_or (slice_get states (q.job - from)) other))) None ≡ Some t → OpenAt q t
        by_job true g h = never_open _ h
        by_job false g h = let past : from ≤ q.job = grind (arith, nat_tests) in by_place past (slice_get states (q.job - from)) refl h

    state_at : (j : ℕ) (s : S) → slice_get states j ≡ Some s → state_in other from states (from + j) ≡ s
    state_at j s at =
        let past : nat_lt (from + j) from ≡ false = grind (arith, nat_tests) in
        let place : from + j - from ≡ j = omega arith in
        ap (λ t. cond t other (unwrap_or (slice_get states (from + j - from)) other)) past
        ∙ ap (λ n. unwrap_or (slice_get states n) other) place ∙ ap (λ x. unwrap_or x other) at

    -- the list has exactly the open transactions, no two of one job
    pub is_listed : IsListed (open_txns_of number current from states) running
    is_listed = record {
      sound = λ i x at.
          let r = found_in from states i x at in (
            r.2,
            ap running (ap (λ (y : OpenTxn). y.by) r.5) ∙ ap (λ s. cond (number r.1 == number s) (current s) None) (state_at r.0 r.1 r.3)
                ∙ ap (λ t. cond t (current r.1) None) (self_eq (number r.1)) ∙ r.4,
            ap (λ (y : OpenTxn). y.writes) (sym r.5),
          );
      complete = λ q t at.
          let r = open_at q t at in
          let g = in_found from states (q.job - from) r.0 t r.1 r.2 in
          let past : from ≤ q.job = r.4 in
          let job : from + (q.job - from) ≡ q.job = omega arith in
          (g.0, g.1 ∙ (λ i. Some (record { by = record { job = job i; number = sym r.3 i }; writes = t.writes })));
      jobs = λ a b t u at_a at_b same.
          let r = open_at a t at_a in
          let s = open_at b u at_b in
          let one : r.0 ≡ s.0 = some_eq r.0 s.0 (sym r.1 ∙ ap (λ n. slice_get states (n - from)) same ∙ s.1) in
          let numbers : a.number ≡ b.number = r.3 ∙ ap number one ∙ sym s.3 in
          λ i. record { job = same i; number = numbers i };
    }

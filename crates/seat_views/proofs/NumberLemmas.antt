-- Equal numbers, functions of numbers that differ at one, and entries by number.
use Rattle.std.proofs.Common.{◌≡◌, ◌≢◌, ◌⊎◌, inl, inr, ⊎_elim, ℕ, zero, suc, ◌<◌, List, [], ◌∷◌, ◌++◌, length, set, refl, sym, ◌∙◌, ap, subst, cond, arith}
use Rattle.std.specs.Prelude.{Bool, true, false, ◌==◌, Option, Some, None}
use Rattle.std.proofs.lemmas.Bool.Decides.{nat_tests}
use mathlib.Core.Option.{some, some-ne-none, some-injective}
use mathlib.Core.Logic.{dite}
use native.Mathlib.Decide.{ℕ_discrete}
use lib.ListN.{get_elem?}
use Rattle.seat_views.specs.Keeping.{kept_at, revised, put, moved, without, only, AreKept}

-- numbers that a test finds equal are equal
pub eq_of : (m n : ℕ) → (m == n) ≡ true → m ≡ n
eq_of m n e = grind (arith, nat_tests)

-- a number is found equal to itself
pub same_number : (n : ℕ) → (n == n) ≡ true
same_number n = grind (arith, nat_tests)

-- and to no other
pub other_number : (m n : ℕ) → m ≢ n → (m == n) ≡ false
other_number m n ne = grind (arith, nat_tests)

-- ---- lists by place

module _ {V : Type 0} where
  -- what stands at a place of a list of which one place was set
  pub at_set : (l : List V) (i j : ℕ) (a b : V) → get_elem? (set l i a) j ≡ some b
      → ((j ≡ i) × (a ≡ b)) ⊎ ((j ≢ i) × (get_elem? l j ≡ some b))
  at_set [] i j a b e = absurd (some-ne-none b (sym e))
  at_set (x ∷ xs) zero zero a b e = inl (refl, some-injective a b e)
  at_set (x ∷ xs) zero (suc j) a b e = inr ((λ h. omega arith), e)
  at_set (x ∷ xs) (suc i) zero a b e = inr ((λ h. omega arith), e)
  at_set (x ∷ xs) (suc i) (suc j) a b e =
      ⊎_elim (λ t. inl (ap suc t.0, t.1)) (λ t. let n = t.0 in
      inr ((λ h. n (omega arith)), t.1)) (at_set xs i j a b e)

  -- what stands at a place of a list with one more at its end
  pub at_end : (l : List V) (a b : V) (i : ℕ) → get_elem? (l ++ a ∷ []) i ≡ some b
      → ((i < length l) × (get_elem? l i ≡ some b)) ⊎ ((i ≡ length l) × (a ≡ b))
  at_end [] a b zero e = inr (refl, some-injective a b e)
  at_end [] a b (suc i) e = absurd (some-ne-none b (sym e))
  at_end (x ∷ l) a b zero e = inl (omega arith, e)
  at_end (x ∷ l) a b (suc i) e =
      elim (at_end l a b i e) as (λ _. ((suc i < length (x ∷ l)) × (get_elem? (x ∷ l) (suc i) ≡ some b))
      ⊎ ((suc i ≡ length (x ∷ l)) × (a ≡ b))) [
        | inl h ↦ let lt = h.0 in inl (omega arith, h.1)
        | inr h ↦ inr (ap suc h.0, h.1)
      ]

module _ {A : Type 0} where
  -- ---- one number among all

  -- the thing whose news these are has them
  pub put_here : (f : ℕ → A) (p : ℕ) (x : A) → put f p x p ≡ x
  put_here f p x = ap (λ b. cond b x (f p)) (same_number p)

  -- and any other is as it was
  pub put_else : (f : ℕ → A) (p : ℕ) (x : A) (k : ℕ) → k ≢ p → put f p x k ≡ f k
  put_else f p x k other = ap (λ b. cond b x (f k)) (other_number k p other)

  -- a fact of all, where one has changed
  pub all_put : (P : ℕ → A → Type 0) (f : ℕ → A) (p : ℕ) (x : A) → P p x → ((k : ℕ) → k ≢ p → P k (f k))
      → (k : ℕ) → P k (put f p x k)
  all_put P f p x here else k =
      dite (ℕ_discrete k p)
      (λ same. subst (λ m. P m (put f p x m)) (sym same) (subst (P p) (sym (put_here f p x)) here))
      (λ other. subst (P k) (sym (put_else f p x k other)) (else k other))

  -- ---- entries by number

  pub none_or_some : (x : Option A) → (x ≡ None) ⊎ ((a : A) × (x ≡ Some a))
  none_or_some None = inl refl
  none_or_some (Some a) = inr (a, refl)

  pub some_is : (a b : A) → Some a ≡ Some b → a ≡ b
  some_is a b e = cc

  -- there are no news
  pub none_kept : (es : List (ℕ × A)) → AreKept es []
  none_kept es k a e = cc

  -- news of one thing that is kept
  pub one_kept : (es : List (ℕ × A)) (n : ℕ) (a b : A) → kept_at es n ≡ Some a → AreKept es ((n, b) ∷ [])
  one_kept es n a b has k c e = by_test (k == n) refl e
    where
      by_test : (t : Bool) → (k == n) ≡ t → cond t (Some b) None ≡ Some c → (x : A) × (kept_at es k ≡ Some x)
      by_test true is e = (a, ap (kept_at es) (eq_of k n is) ∙ has)
      by_test false is e = cc

  -- the entries in front count, where they have the number
  pub kept-append : (xs ys : List (ℕ × A)) (k : ℕ)
      → (kept_at xs k ≡ None → kept_at (xs ++ ys) k ≡ kept_at ys k)
      × ((a : A) → kept_at xs k ≡ Some a → kept_at (xs ++ ys) k ≡ Some a)
  kept-append [] ys k = (λ _. refl, λ a e. cc)
  kept-append (x ∷ xs) ys k = by_test (k == x.0) (kept-append xs ys k)
    where
      Front : Option A → Option A → Type 0
      Front front all = (front ≡ None → all ≡ kept_at ys k) × ((a : A) → front ≡ Some a → all ≡ Some a)

      by_test : (b : Bool) → Front (kept_at xs k) (kept_at (xs ++ ys) k)
          → Front (cond b (Some x.1) (kept_at xs k)) (cond b (Some x.1) (kept_at (xs ++ ys) k))
      by_test true ih = (λ e. cc, λ a e. e)
      by_test false ih = ih

  -- what has no news is as it was
  pub revised-none : (content : ℕ → A) (news : List (ℕ × A)) (k : ℕ) → kept_at news k ≡ None
      → revised content news k ≡ content k
  revised-none content [] k e = refl
  revised-none content (x ∷ news) k e = by_test (k == x.0) e (revised-none content news k)
    where
      by_test : (b : Bool) → cond b (Some x.1) (kept_at news k) ≡ None
          → (kept_at news k ≡ None → revised content news k ≡ content k)
          → cond b x.1 (revised content news k) ≡ content k
      by_test true e ih = cc
      by_test false e ih = ih e

  -- what has news is as the first of them says
  pub revised-some : (content : ℕ → A) (news : List (ℕ × A)) (k : ℕ) (a : A) → kept_at news k ≡ Some a
      → revised content news k ≡ a
  revised-some content [] k a e = cc
  revised-some content (x ∷ news) k a e = by_test (k == x.0) e (revised-some content news k a)
    where
      by_test : (b : Bool) → cond b (Some x.1) (kept_at news k) ≡ Some a
          → (kept_at news k ≡ Some a → revised content news k ≡ a) → cond b x.1 (revised content news k) ≡ a
      by_test true e ih = some_is x.1 a e
      by_test false e ih = ih e

  -- what a seat didn't take over has the keeper that it had
  pub moved-none : (keeper : ℕ → ℕ) (es : List (ℕ × A)) (seat k : ℕ) → kept_at es k ≡ None
      → moved keeper es seat k ≡ keeper k
  moved-none keeper [] seat k e = refl
  moved-none keeper (x ∷ es) seat k e = by_test (k == x.0) e (moved-none keeper es seat k)
    where
      by_test : (b : Bool) → cond b (Some x.1) (kept_at es k) ≡ None
          → (kept_at es k ≡ None → moved keeper es seat k ≡ keeper k)
          → cond b seat (moved keeper es seat k) ≡ keeper k
      by_test true e ih = cc
      by_test false e ih = ih e

  -- and it keeps what it took over
  pub moved-some : (keeper : ℕ → ℕ) (es : List (ℕ × A)) (seat k : ℕ) (a : A) → kept_at es k ≡ Some a
      → moved keeper es seat k ≡ seat
  moved-some keeper [] seat k a e = cc
  moved-some keeper (x ∷ es) seat k a e = by_test (k == x.0) e (moved-some keeper es seat k a)
    where
      by_test : (b : Bool) → cond b (Some x.1) (kept_at es k) ≡ Some a
          → (kept_at es k ≡ Some a → moved keeper es seat k ≡ seat)
          → cond b seat (moved keeper es seat k) ≡ seat
      by_test true e ih = refl
      by_test false e ih = ih e

  -- an entry that is left without a number was there, and is of another one
  pub without_kept : (n : ℕ) (es : List (ℕ × A)) (k : ℕ) (a : A) → kept_at (without n es) k ≡ Some a
      → (kept_at es k ≡ Some a) × (k ≢ n)
  without_kept n [] k a e = cc
  without_kept n (x ∷ es) k a e = by_tests (n == x.0) (k == x.0) refl refl e (without_kept n es k a)
    where
      by_tests : (s t : Bool) → (n == x.0) ≡ s → (k == x.0) ≡ t
          → kept_at (cond s (without n es) (x ∷ without n es)) k ≡ Some a
          → (kept_at (without n es) k ≡ Some a → (kept_at es k ≡ Some a) × (k ≢ n))
          → (cond t (Some x.1) (kept_at es k) ≡ Some a) × (k ≢ n)
      by_tests true true s t e ih = let m = eq_of n x.0 s in let l = eq_of k x.0 t in
          absurd ((ih e).1 (l ∙ sym m))
      by_tests true false s t e ih = ih e
      by_tests false true s t e ih = (
        ap (λ b. cond b (Some x.1) (kept_at (without n es) k)) (sym t)
            ∙ e,
        λ same. apart s t same,
      )
        where
          apart : (n == x.0) ≡ false → (k == x.0) ≡ true → k ≡ n → ⊥
          apart s t same = let u : (n == x.0) ≡ true = ap (λ m. m == x.0) (sym same) ∙ t in cc
      by_tests false false s t e ih = ih (ap (λ b. cond b (Some x.1) (kept_at (without n es) k)) (sym t) ∙ e)

  -- and the only entry of a number was there
  pub only_kept : (n : ℕ) (es : List (ℕ × A)) (k : ℕ) (a : A) → kept_at (only n es) k ≡ Some a
      → (kept_at es k ≡ Some a) × (k ≡ n)
  only_kept n [] k a e = cc
  only_kept n (x ∷ es) k a e = by_tests (n == x.0) (k == x.0) refl refl e (only_kept n es k a)
    where
      by_tests : (s t : Bool) → (n == x.0) ≡ s → (k == x.0) ≡ t
          → kept_at (cond s (x ∷ []) (only n es)) k ≡ Some a
          → (kept_at (only n es) k ≡ Some a → (kept_at es k ≡ Some a) × (k ≡ n))
          → (cond t (Some x.1) (kept_at es k) ≡ Some a) × (k ≡ n)
      by_tests true true s t e ih = (
        ap (λ b. cond b (Some x.1) (kept_at [] k)) (sym t) ∙ e,
        eq_of k x.0 t
            ∙ sym (eq_of n x.0 s),
      )
      by_tests true false s t e ih =
          let f : cond false (Some x.1) (kept_at [] k) ≡ Some a =
          ap (λ b. cond b (Some x.1) (kept_at [] k)) (sym t) ∙ e in cc
      by_tests false true s t e ih = let m = (ih e).1 in let u : (n == x.0) ≡ true = ap (λ m. m == x.0) (sym m)
          ∙ t in cc
      by_tests false false s t e ih = ih e

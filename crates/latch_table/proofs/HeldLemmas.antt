-- Lists of cells that are held, and a seat through the steps of its pass.
use Rattle.std.proofs.Common.{◌≡◌, ◌≢◌, ℕ, List, [], ◌∷◌, ◌++◌, refl, sym, ◌∙◌, ap, subst, cond, arith, Some, None}
use Rattle.std.specs.Prelude.{Bool, true, false, ◌==◌, ◌||◌, ◌&&◌, not}
use Rattle.std.proofs.lemmas.Bool.Decides.{nat_tests}
use mathlib.Core.Logic.{dite}
use native.Mathlib.Decide.{ℕ_discrete}
use Rattle.seat_views.specs.Keeping.{kept_at}
use Rattle.seat_views.proofs.NumberLemmas.{same_number, other_number, eq_of}
use Rattle.latch_table.specs.declared.sight.LatchSight.{LatchSight}
use Rattle.latch_table.specs.Latched.{is_held, without_cell, out_of, is_once, IsPassSeat, number_of, cells_of, looked, took, gave}

-- ---- lists of cells

-- another cell is held after one is taken out exactly where it was before
pub held_without : (c d : ℕ) (cells : List ℕ) → c ≢ d → is_held c (without_cell d cells) ≡ is_held c cells
held_without c d [] ne = refl
held_without c d (x ∷ xs) ne = by_tests (c == x) (d == x) refl refl (held_without c d xs ne)
  where
    by_tests : (a b : Bool) → (c == x) ≡ a → (d == x) ≡ b → is_held c (without_cell d xs) ≡ is_held c xs
        → is_held c (cond (not b) (x ∷ without_cell d xs) (without_cell d xs)) ≡ (a || is_held c xs)
    by_tests true true e f ih = absurd (ne (eq_of c x e ∙ sym (eq_of d x f)))
    by_tests true false e f ih = ap (λ t. t || is_held c (without_cell d xs)) e
    by_tests false true e f ih = ih
    by_tests false false e f ih = ap (λ t. t || is_held c (without_cell d xs)) e ∙ ih

-- and that one is not
pub gone : (c : ℕ) (cells : List ℕ) → is_held c (without_cell c cells) ≡ false
gone c [] = refl
gone c (x ∷ xs) = by_test (c == x) refl (gone c xs)
  where
    by_test : (b : Bool) → (c == x) ≡ b → is_held c (without_cell c xs) ≡ false
        → is_held c (cond (not b) (x ∷ without_cell c xs) (without_cell c xs)) ≡ false
    by_test true e ih = ih
    by_test false e ih = ap (λ t. t || is_held c (without_cell c xs)) e ∙ ih

held-snoc : (c d : ℕ) (cs : List ℕ) → is_held c (cs ++ d ∷ []) ≡ ((c == d) || is_held c cs)
held-snoc c d [] = refl
held-snoc c d (x ∷ xs) = ap (λ t. (c == x) || t) (held-snoc c d xs) ∙ swap (c == x) (c == d) (is_held c xs)
  where
    swap : (a b t : Bool) → (a || (b || t)) ≡ (b || (a || t))
    swap true true t = refl
    swap true false t = refl
    swap false true t = refl
    swap false false t = refl

out-snoc : {S : Type 0} (xs : List (ℕ × S)) (x : ℕ × S) → out_of (xs ++ x ∷ []) ≡ out_of xs ++ x.0 ∷ []
out-snoc [] x = refl
out-snoc (y ∷ xs) x = ap (λ l. y.0 ∷ l) (out-snoc xs x)

-- a cell that is new in front of others
once_more : (c : ℕ) (cs : List ℕ) → is_held c cs ≡ false → is_once cs ≡ true → is_once (c ∷ cs) ≡ true
once_more c cs new once = λ i. not (new i) && once i

once_first : (c : ℕ) (cs : List ℕ) → is_once (c ∷ cs) ≡ true → (is_held c cs ≡ false) × (is_once cs ≡ true)
once_first c cs once = parts (is_held c cs) (is_once cs) once
  where
    parts : (a b : Bool) → (not a && b) ≡ true → (a ≡ false) × (b ≡ true)
    parts true b e = cc
    parts false b e = (refl, e)

once-snoc : (cs : List ℕ) (c : ℕ) → is_once cs ≡ true → is_held c cs ≡ false → is_once (cs ++ c ∷ []) ≡ true
once-snoc [] c once new = refl
once-snoc (x ∷ cs) c once new =
    let first = once_first x cs once in
    let apart = parts (c == x) (is_held c cs) new in
    once_more x (cs ++ c ∷ []) (held-snoc x c cs ∙ two (x == c) (is_held x cs) (flip apart.0) first.0)
    (once-snoc cs c first.1 apart.1)
  where
    parts : (a b : Bool) → (a || b) ≡ false → (a ≡ false) × (b ≡ false)
    parts true b e = cc
    parts false b e = (refl, e)

    flip : (c == x) ≡ false → (x == c) ≡ false
    flip e = grind (arith, nat_tests)

    two : (a b : Bool) → a ≡ false → b ≡ false → (a || b) ≡ false
    two true b e f = cc
    two false b e f = f

-- where no cell is among them there is none
pub none_held : (cells : List ℕ) → ((c : ℕ) → is_held c cells ≡ false) → cells ≡ []
none_held [] h = refl
none_held (c ∷ cs) h =
    let e : ((c == c) || is_held c cs) ≡ false = h c in
    let f : ((c == c) || is_held c cs) ≡ true = ap (λ t. t || is_held c cs) (same_number c) in
    absurd (apart (sym e ∙ f))
  where
    apart : false ≡ true → ⊥
    apart e = cc

-- ---- the seat of a pass

module _ {S K : Type 0} (passes : ℕ) (k : K) (v : LatchSight K) (slots : List (ℕ × S))
    (is : IsPassSeat passes k (v, slots)) where
  -- it has looked at a word
  pub seat_looked : (c n : ℕ) → IsPassSeat passes k (looked v c n, slots)
  seat_looked c n = record {
    key = is.key;
    small = is.small;
    some = is.some;
    only = is.only;
    same = is.same;
    once = is.once;
  }

  first_some : (p : ℕ) (cells : List ℕ) (rest : List (ℕ × List ℕ)) → kept_at ((p, cells) ∷ rest) p ≡ Some cells
  first_some p cells rest = ap (λ b. cond b (Some cells) (kept_at rest p)) (same_number p)

  other_none : (cells : List ℕ) (p : ℕ) → p ≢ number_of v → kept_at ((number_of v, cells) ∷ v.passes) p ≡ None
  other_none cells p other = ap (λ b. cond b (Some cells) (kept_at v.passes p))
      (other_number p (number_of v) other) ∙ is.only p other

  -- it has taken a cell
  pub seat_took : (c n : ℕ) (x : S) → is_held c (cells_of v) ≡ false
      → IsPassSeat passes k (took v c n, (c, x) ∷ slots)
  seat_took c n x new = record {
    key = is.key;
    small = is.small;
    some = first_some (number_of v) (c ∷ cells_of v) v.passes;
    only = other_none (c ∷ cells_of v);
    same = λ d. ap (λ t. (d == c) || t) (is.same d);
    once = once_more c (out_of slots) (sym (is.same c) ∙ new) is.once;
  }

  -- it has given a cell back
  pub seat_gave : (c n : ℕ) (x : S) (others : List (ℕ × S)) → slots ≡ (c, x) ∷ others
      → IsPassSeat passes k (gave v c n, others)
  seat_gave c n x others lies = record {
    key = is.key;
    small = is.small;
    some = first_some (number_of v) (without_cell c (cells_of v)) v.passes;
    only = other_none (without_cell c (cells_of v));
    same = λ d. dite (ℕ_discrete d c)
        (λ same. ap (λ e. is_held e (without_cell c (cells_of v))) same ∙ gone c (cells_of v)
        ∙ sym (ap (λ e. is_held e (out_of others)) same ∙ mine.0))
        (λ other. held_without d c (cells_of v) other ∙ is.same d ∙ ap (λ l. is_held d (out_of l)) lies
        ∙ ap (λ t. t || is_held d (out_of others)) (other_number d c other));
    once = mine.1;
  }
    where
      mine : (is_held c (out_of others) ≡ false) × (is_once (out_of others) ≡ true)
      mine = once_first c (out_of others) (subst (λ l. is_once (out_of l) ≡ true) lies is.once)

  -- it has put a value back, and the slot goes behind the others
  pub seat_put : (c : ℕ) (x y : S) (others : List (ℕ × S)) → slots ≡ (c, x) ∷ others
      → IsPassSeat passes k (v, others ++ (c, y) ∷ [])
  seat_put c x y others lies = record {
    key = is.key;
    small = is.small;
    some = is.some;
    only = is.only;
    same = λ d. is.same d ∙ ap (λ l. is_held d (out_of l)) lies
        ∙ sym (ap (is_held d) (out-snoc others (c, y)) ∙ held-snoc d c (out_of others));
    once = ap is_once (out-snoc others (c, y)) ∙ once-snoc (out_of others) c mine.1 mine.0;
  }
    where
      mine : (is_held c (out_of others) ≡ false) × (is_once (out_of others) ≡ true)
      mine = once_first c (out_of others) (subst (λ l. is_once (out_of l) ≡ true) lies is.once)

  -- a pass that has no slot holds no cell
  pub seat_idle : slots ≡ [] → kept_at v.passes (number_of v) ≡ Some []
  seat_idle none = is.some ∙ ap (λ l. Some l) (none_held (cells_of v) (λ c. is.same c
      ∙ ap (λ l. is_held c (out_of l)) none))

-- How often leaves stand in lists, and how long such a list may be.
use Rattle.std.proofs.Common.{◌≡◌, ◌≢◌, ℕ, zero, suc, ◌+◌, ◌-◌, ◌<◌, ◌≤◌, ◌==◌, ◌||◌, Bool, true, false, cond, nat_lt, eqb, List, [], ◌∷◌, ◌++◌, length, map, count_by, refl, sym, ◌∙◌, ap, subst, arith, eqb-true, eq-eqb}
use Rattle.std.specs.List.{AllByRecursion, IsDistinct, list_any, range_with_len}
use Rattle.std.proofs.lemmas.Bool.{ne_eqb}
use Rattle.std.proofs.lemmas.Bool.Decides.{nat_tests}
use Rattle.std.proofs.lemmas.List.Sums.{sum_by-cons, sum_by-append}
use Rattle.std.proofs.lemmas.Map.Steps.{length-le_from_distinct_below}

abbrev pub worth : Bool → ℕ
worth t = cond t 1 0

module _ {X : Type 0} where
  pub count_cons : (p : X → Bool) (x : X) (xs : List X) → count_by p (x ∷ xs) ≡ cond (p x) 1 0 + count_by p xs
  count_cons p x xs = sum_by-cons (λ y. cond (p y) 1 0) x xs

  pub count_append : (p : X → Bool) (xs ys : List X) → count_by p (xs ++ ys) ≡ count_by p xs + count_by p ys
  count_append p xs ys = sum_by-append (λ y. cond (p y) 1 0) xs ys

  -- what is nowhere is no item
  pub none_counted : (f : X → ℕ) (n : ℕ) (xs : List X) → count_by (λ x. f x == n) xs ≡ 0 → AllByRecursion (λ x. f x ≢ n) xs
  none_counted f n [] e = tt
  none_counted f n (x ∷ xs) e =
      let parts = count_cons (λ y. f y == n) x xs in
      (by_test (f x == n) refl parts, none_counted f n xs (omega (arith, parts, e)))
    where
      by_test : (t : Bool) → (f x == n) ≡ t → count_by (λ y. f y == n) (x ∷ xs) ≡ cond t 1 0 + count_by (λ y. f y == n) xs → f x ≢ n
      by_test true t parts same = absurd (omega (arith, parts, e))
      by_test false t parts same = let yes : (f x == n) ≡ true = eq-eqb (f x) n same in cc

pub count_map : {X : Type 0} (f : X → ℕ) (n : ℕ) (xs : List X) → count_by (λ y. y == n) (map f xs) ≡ count_by (λ x. f x == n) xs
count_map f n [] = refl
count_map f n (x ∷ xs) = count_cons (λ y. y == n) (f x) (map f xs) ∙ ap (λ m. worth (f x == n) + m) (count_map f n xs) ∙ sym (count_cons (λ y. f y == n) x xs)

once_distinct : (xs : List ℕ) → ((n : ℕ) → count_by (λ x. x == n) xs ≤ 1) → IsDistinct eqb xs
unfolding IsDistinct
once_distinct [] h = tt
once_distinct (x ∷ xs) h = (
  apart xs (none_counted (λ y. y) x xs (let parts = count_cons (λ y. y == x) x xs in let one = ap worth (eq-eqb x x refl) in omega (arith, h x, parts, one))),
  once_distinct xs (λ n. omega (arith, h n, count_cons (λ y. y == n) x xs)),
)
  where
    apart : (ys : List ℕ) → AllByRecursion (λ y. y ≢ x) ys → AllByRecursion (λ y. eqb x y ≡ false) ys
    apart [] h = tt
    apart (y ∷ ys) h = (ne_eqb x y (λ e. h.0 (sym e)), apart ys h.1)

counted : (q : ℕ) (xs : List ℕ) → list_any (eqb q) xs ≡ true → 1 ≤ count_by (λ x. x == q) xs
counted q [] e = cc
counted q (x ∷ xs) e = by_test (eqb q x) refl e (counted q xs)
  where
    by_test : (t : Bool) → eqb q x ≡ t → (t || list_any (eqb q) xs) ≡ true → (list_any (eqb q) xs ≡ true → 1 ≤ count_by (λ y. y == q) xs) → 1 ≤ count_by (λ y. y == q) (x ∷ xs)
    by_test true t f rest = let same = eqb-true q x t in let parts = count_cons (λ y. y == q) x xs in let one = ap worth (eq-eqb x q (sym same)) in omega (arith, parts, one)
    by_test false t f rest = let parts = count_cons (λ y. y == q) x xs in omega (arith, parts, rest f)

-- numbers below n that stand once at most are at most n
pub at_most : (xs : List ℕ) (n : ℕ) → ((q : ℕ) → count_by (λ x. x == q) xs ≤ cond (nat_lt q n) 1 0) → length xs ≤ n
at_most xs n once = length-le_from_distinct_below xs n (once_distinct xs (λ q. omega (arith, once q, small q))) (λ q any. exists q (omega (arith, once q, counted q xs any)))
  where
    small : (q : ℕ) → cond (nat_lt q n) 1 0 ≤ 1
    small q = grind (arith, nat_tests)

    exists : (q : ℕ) → 1 ≤ cond (nat_lt q n) 1 0 → q < n
    exists q h = grind (arith, nat_tests)

-- numbers below n that stand once at most, with one of them missing, are fewer than n
pub fewer : (xs : List ℕ) (n missing : ℕ) → ((q : ℕ) → count_by (λ x. x == q) xs ≤ cond (nat_lt q n) 1 0) → count_by (λ x. x == missing) xs ≡ 0 → missing < n → length xs < n
fewer xs n missing once none lt = length-le_from_distinct_below (missing ∷ xs) n (once_distinct (missing ∷ xs) (λ q. one q)) (λ q any. below q (counted q (missing ∷ xs) any))
  where
    small : (q : ℕ) → cond (nat_lt q n) 1 0 ≤ 1
    small q = grind (arith, nat_tests)

    one : (q : ℕ) → count_by (λ x. x == q) (missing ∷ xs) ≤ 1
    one q = by_test (missing == q) refl
      where
        by_test : (t : Bool) → (missing == q) ≡ t → count_by (λ x. x == q) (missing ∷ xs) ≤ 1
        by_test true t = let same : missing ≡ q = eqb-true missing q t in let here = subst (λ m. count_by (λ x. x == m) xs ≡ 0) same none in let parts = count_cons (λ y. y == q) missing xs in let v = ap worth t in omega (arith, parts, here, v)
        by_test false t = let parts = count_cons (λ y. y == q) missing xs in let v = ap worth t in omega (arith, parts, v, once q, small q)

    exists : (q : ℕ) → 1 ≤ cond (nat_lt q n) 1 0 → q < n
    exists q h = grind (arith, nat_tests)

    below : (q : ℕ) → 1 ≤ count_by (λ x. x == q) (missing ∷ xs) → q < n
    below q h = by_test (missing == q) refl
      where
        by_test : (t : Bool) → (missing == q) ≡ t → q < n
        by_test true t = let same : missing ≡ q = eqb-true missing q t in omega (arith, same, lt)
        by_test false t = let parts = count_cons (λ y. y == q) missing xs in let v = ap worth t in exists q (omega (arith, parts, v, once q, h))

-- a leaf that stands somewhere exists
pub existing : (q n : ℕ) → 1 ≤ cond (nat_lt q n) 1 0 → q < n
existing q n h = grind (arith, nat_tests)

pub at_most_one : (q n : ℕ) → cond (nat_lt q n) 1 0 ≤ 1
at_most_one q n = grind (arith, nat_tests)

pub one_below : (q n : ℕ) → q < n → 1 ≤ cond (nat_lt q n) 1 0
one_below q n h = grind (arith, nat_tests)

-- a leaf that stood nowhere may stand once
pub once_more : (n leaf q before after : ℕ) → leaf < n → (leaf ≡ q → before ≡ 0) → before ≤ cond (nat_lt q n) 1 0 → after ≡ before + cond (leaf == q) 1 0 → after ≤ cond (nat_lt q n) 1 0
once_more n leaf q before after lt none le e = by_test (leaf == q) refl e
  where
    by_test : (t : Bool) → (leaf == q) ≡ t → after ≡ before + cond t 1 0 → after ≤ cond (nat_lt q n) 1 0
    by_test true t e = let same = eqb-true leaf q t in omega (arith, e, none same, one_below q n (omega (arith, same, lt)))
    by_test false t e = omega (arith, e, le)

-- a range with one number more
pub range_more : (from count next : ℕ) → next ≡ from + count → range_with_len from (count + 1) ≡ range_with_len from count ++ next ∷ []
range_more from zero next e = let same : next ≡ from = omega (arith, e) in ap (λ n. n ∷ []) (sym same)
range_more from (suc count) next e = let up : suc count + 1 ≡ suc (count + 1) = omega arith in ap (range_with_len from) up ∙ ap (λ ns. from ∷ ns) (range_more (from + 1) count next (omega (arith, e)))

-- a number stands once in a range, and not before its begin
pub count_range : (from count q : ℕ) → (count_by (λ n. n == q) (range_with_len from count) ≤ worth (nat_lt q (from + count))) × (q < from → count_by (λ n. n == q) (range_with_len from count) ≡ 0)
count_range from zero q = (omega arith, λ lt. refl)
count_range from (suc count) q =
    let rest = count_range (from + 1) count q in
    let parts = count_cons (λ n. n == q) from (range_with_len (from + 1) count) in
    by_test (from == q) refl rest parts
  where
    by_test : (t : Bool) → (from == q) ≡ t → (count_by (λ n. n == q) (range_with_len (from + 1) count) ≤ worth (nat_lt q (from + 1 + count))) × (q < from + 1 → count_by (λ n. n == q) (range_with_len (from + 1) count) ≡ 0)
        → count_by (λ n. n == q) (from ∷ range_with_len (from + 1) count) ≡ worth (from == q) + count_by (λ n. n == q) (range_with_len (from + 1) count)
        → (count_by (λ n. n == q) (from ∷ range_with_len (from + 1) count) ≤ worth (nat_lt q (from + suc count))) × (q < from → count_by (λ n. n == q) (from ∷ range_with_len (from + 1) count) ≡ 0)
    by_test true t rest parts =
        let same = eqb-true from q t in
        let value = ap worth t in
        let none = rest.1 (omega (arith, same)) in
        (omega (arith, parts, value, none, one_below q (from + suc count) (omega (arith, same))), λ lt. absurd (omega (arith, lt, same)))
    by_test false t rest parts =
        let value = ap worth t in
        let up : from + 1 + count ≡ from + suc count = omega arith in
        let le : count_by (λ n. n == q) (range_with_len (from + 1) count) ≤ worth (nat_lt q (from + suc count)) = subst (λ m. count_by (λ n. n == q) (range_with_len (from + 1) count) ≤ worth (nat_lt q m)) up rest.0 in
        (omega (arith, parts, value, le), λ lt. omega (arith, parts, value, rest.1 (omega (arith, lt))))

-- a number does not stand in a range that ends before it
pub beyond_range : (q : ℕ) → 1 ≤ q → count_by (λ n. n == q) (range_with_len 1 (q - 1)) ≡ 0
beyond_range q some = none_from (1 + (q - 1)) _ (omega (arith, some)) (count_range 1 (q - 1) q).0
  where
    none_from : (n times : ℕ) → n ≤ q → times ≤ cond (nat_lt q n) 1 0 → times ≡ 0
    none_from n times le few = grind (arith, nat_tests)

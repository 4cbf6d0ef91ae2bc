-- Lists in which nothing stands twice.
use Rattle.std.proofs.Common.{◌≡◌, ◌≢◌, ℕ, ◌+◌, ◌<◌, ◌≤◌, ◌==◌, Bool, false, List, [], ◌∷◌, ◌++◌, get_or, map, suc, subst, arith}
use Rattle.std.specs.List.{IsDistinct, AllByRecursion}
use Rattle.std.specs.List.Sorted.{IsStrictlyIncreasing, IsPermutation, IsSortedByKey}
use Rattle.std.specs.Ordering.{nat_cmp}
use Rattle.std.specs.Bool.{Decides}
use Rattle.std.proofs.lemmas.Bool.Decides.{nat_tests}
use Rattle.std.proofs.lemmas.List.Elements.{recursion_from_All}
use Rattle.std.proofs.lemmas.List.Kept.{AllPairs-from_increasing}
use Rattle.std.proofs.lemmas.List.Sorted.{IsNonDecreasingBy-from_sort, IsPermutation-sym}
use Rattle.std.proofs.lemmas.Map.Keys.{IsDistinct-IsPermutation, IsDistinct-head, IsDistinct-tail}
use Rattle.std.proofs.lemmas.Map.Made.{AllPairs-from_IsDistinct}
use Rattle.graph_model.proofs.TestLemmas.{eq_symm}

-- the numbers are the same
abbrev pub same_number : ℕ → ℕ → Bool
same_number x y = x == y

-- numbers that rise differ
pub distinct_from_increasing : (xs : List ℕ) → IsStrictlyIncreasing xs → IsDistinct same_number xs
unfolding IsDistinct
distinct_from_increasing [] up = tt
distinct_from_increasing (x ∷ xs) up = (
  recursion_from_All (λ y. same_number x y ≡ false) xs (λ k d inside. apart x _ (AllPairs-from_increasing (x ∷ xs) up 0 (suc k) d (omega arith) (omega arith))),
  distinct_from_increasing xs (λ k inside. subst (λ n. get_or (x ∷ xs) (suc k) 0 < get_or (x ∷ xs) n 0) (behind k) (up (suc k) (omega arith))),
)
  where
    behind : (k : ℕ) → suc k + 1 ≡ suc (k + 1)
    behind k = omega arith

    apart : (x y : ℕ) → x < y → (x == y) ≡ false
    apart x y below = grind (arith, nat_tests, below)

-- so do numbers that rise once they are sorted
pub distinct_from_sorted : (xs ys : List ℕ) → IsPermutation xs ys → IsStrictlyIncreasing ys → IsDistinct same_number xs
distinct_from_sorted xs ys moved up = IsDistinct-IsPermutation same_number eq_symm ys xs (IsPermutation-sym xs ys moved) (distinct_from_increasing ys up)

-- and numbers that differ rise once they are sorted
pub increasing_from_distinct : (xs ys : List ℕ) → IsPermutation xs ys → IsSortedByKey (λ n. n) nat_cmp ys → IsDistinct same_number xs → IsStrictlyIncreasing ys
increasing_from_distinct xs ys moved sorted distinct k inside =
    let apart : get_or ys k 0 ≢ get_or ys (k + 1) 0 =
    AllPairs-from_IsDistinct decides ys (IsDistinct-IsPermutation same_number eq_symm xs ys moved distinct) k (k + 1) 0 (omega arith) inside in
    let upto : get_or ys k 0 ≤ get_or ys (k + 1) 0 = IsNonDecreasingBy-from_sort (λ n. n) ys sorted k (k + 1) 0 (omega arith) inside in
    omega (arith, apart, upto)
  where
    decides : (a b : ℕ) → Decides (same_number a b) (a ≡ b)
    decides a b = (λ same. grind (arith, nat_tests, same), λ same. grind (arith, nat_tests, same))

-- of numbers that differ, those before one differ from it
pub earlier_differ : {X : Type 0} (f : X → ℕ) (before : List X) (x : X) (more : List X) → IsDistinct same_number (map f (before ++ x ∷ more)) → AllByRecursion (λ y. (f y == f x) ≡ false) before
earlier_differ f [] x more distinct = tt
earlier_differ {X} f (y ∷ before) x more distinct = (
  last before (IsDistinct-head same_number (f y) (map f (before ++ x ∷ more)) distinct),
  earlier_differ f before x more (IsDistinct-tail same_number (f y) (map f (before ++ x ∷ more)) distinct),
)
  where
    last : (between : List X) → AllByRecursion (λ z. (f y == z) ≡ false) (map f (between ++ x ∷ more)) → (f y == f x) ≡ false
    last [] each = each.0
    last (z ∷ between) each = last between each.1

-- What windows that fit, and windows that don't, say of a leaf's rows.
use Rattle.std.proofs.Common.{◌≡◌, ◌⊎◌, ℕ, zero, suc, ◌+◌, ◌*◌, ◌/◌, ◌%◌, ◌^◌, ◌<◌, ◌≤◌, nat_lt, cond, List, [], ◌∷◌, map, take, drop, sum, refl, ◌∙◌, ap, subst, arith, inl, inr}
use Rattle.std.specs.Prelude.{None, slice_index}
use Rattle.std.specs.List.{AllByRecursion, range_with_len}
use Rattle.std.proofs.Math.Nat.{div-add-mod, mul-le-mul_left}
use Rattle.std.proofs.lemmas.Bool.Decides.{nat_tests}
use Rattle.std.proofs.lemmas.List.Sums.{sum_by-cons}
use Rattle.graph_model.specs.declared.limits.TheConstants.{SEGMENT_ROWS}
use Rattle.density_tree.specs.declared.window.Window.{Window}
use Rattle.density_tree.specs.declared.window.TheConstants.{UPPER_LIMITS}
use Rattle.density_tree.specs.Division.{share_of, evenly}
use Rattle.density_tree.specs.Windows.{Fits, IsSmallest, IsSmallestWindow, rows_in, window_round}

-- ---- a window that fits

height_is : (height : ℕ) → 1 ≤ height → height < 4 → ((height ≡ 1) ⊎ (height ≡ 2)) ⊎ (height ≡ 3)
height_is zero some few = absurd (omega (arith, some))
height_is (suc zero) some few = inl (inl refl)
height_is (suc (suc zero)) some few = inl (inr refl)
height_is (suc (suc (suc zero))) some few = inr refl
height_is (suc (suc (suc (suc height)))) some few = absurd (omega (arith, few))

-- it has at most 30 rows a segment, and segments
record IsThin (counts : List ℕ) (window : Window) : Type 0 where
  some : 1 ≤ window.len
  few : rows_in counts window ≤ 30 * window.len

is_thin : (counts : List ℕ) (need segment : ℕ) (window : Window) → IsSmallest (Fits counts need) segment window
    → IsThin counts window
is_thin counts need segment window smallest =
    by_height (height_is smallest.height smallest.higher smallest.within)
  where
    few : (h : ℕ) → smallest.height ≡ h → rows_in counts window + need ≤ slice_index UPPER_LIMITS h
    few h e = subst (λ x. rows_in counts window + need ≤ slice_index UPPER_LIMITS x) e smallest.will

    wide : (h : ℕ) → smallest.height ≡ h → window.len ≡ 2 ^ h
    wide h e = ap (λ (w : Window). w.len) smallest.round ∙ ap (λ x. 2 ^ x) e

    by_height : ((smallest.height ≡ 1) ⊎ (smallest.height ≡ 2)) ⊎ (smallest.height ≡ 3) → IsThin counts window
    by_height (inl (inl one)) = record {
      some = omega (arith, wide 1 one);
      few = omega (arith, few 1 one, wide 1 one);
    }
    by_height (inl (inr two)) = record {
      some = omega (arith, wide 2 two);
      few = omega (arith, few 2 two, wide 2 two);
    }
    by_height (inr three) = record {
      some = omega (arith, wide 3 three);
      few = omega (arith, few 3 three, wide 3 three);
    }

share_at_most : (q r k segs rows : ℕ) → 1 ≤ segs → segs * q + r ≡ rows → rows ≤ 30 * segs
    → (30 ≤ q → segs * 30 ≤ segs * q) → (31 ≤ q → segs * 31 ≤ segs * q)
    → cond (nat_lt k r) (q + 1) q + 2 ≤ SEGMENT_ROWS
share_at_most q r k segs rows some all few full more = grind (arith, nat_tests, full, more)

shares_at_most : (rows segs from n : ℕ) → 1 ≤ segs → rows ≤ 30 * segs
    → AllByRecursion (λ count. count + 2 ≤ SEGMENT_ROWS) (map (share_of rows segs) (range_with_len from n))
shares_at_most rows segs from zero some few = tt
shares_at_most rows segs from (suc n) some few = (
  share_at_most (rows / segs) (rows % segs) from segs rows some (div-add-mod rows segs) few
      (λ h. mul-le-mul_left segs h) (λ h. mul-le-mul_left segs h),
  shares_at_most rows segs (from + 1) n some few,
)

-- its even division leaves two free places in each segment
pub leaves_places : (counts : List ℕ) (need segment : ℕ) (window : Window)
    → IsSmallest (Fits counts need) segment window
    → AllByRecursion (λ count. count + 2 ≤ SEGMENT_ROWS) (evenly (rows_in counts window) window.len)
leaves_places counts need segment window smallest =
    let thin = is_thin counts need segment window smallest in
    shares_at_most (rows_in counts window) window.len 0 window.len thin.some thin.few

-- ---- no window fits

take_less : (n : ℕ) (xs : List ℕ) → sum (take n xs) ≤ sum xs
take_less zero xs = omega arith
take_less (suc n) [] = omega arith
take_less (suc n) (x ∷ xs) =
    let rest = take_less n xs in
    let all = sum_by-cons (λ (m : ℕ). m) x xs in
    let front = sum_by-cons (λ (m : ℕ). m) x (take n xs) in
    omega (arith, rest, all, front)

-- then the whole leaf doesn't
pub is_crowded : (counts : List ℕ) (need segment : ℕ) → segment < 8 → need ≤ 2
    → IsSmallestWindow (Fits counts need) segment None → 207 ≤ sum counts
is_crowded counts need segment within few none =
    let whole : Window = record { first = 0; len = 8 } in
    let begin : segment / 8 * 8 ≡ 0 = omega (arith, within) in
    let round : window_round segment 3 ≡ whole = λ i. record { first = begin i; len = 8 } in
    let rows : rows_in counts (window_round segment 3) ≡ sum (take 8 counts) = ap (rows_in counts) round in
    let full : rows_in counts (window_round segment 3) + need ≤ 208 → ⊥ = none 3 (omega arith) (omega arith) in
    let less = take_less 8 counts in
    omega (arith, rows, full, few, less)

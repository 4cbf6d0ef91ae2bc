-- Leaves of a load whose rows are in two lists.
use Rattle.std.proofs.Common.{◌≡◌, ℕ, zero, suc, ◌+◌, ◌-◌, ◌*◌, ◌<◌, ◌≤◌, List, [], ◌∷◌, ◌++◌, Option, Some, None, length, min, take, drop, get_or, refl, sym, ◌∙◌, ap, ap₂, subst, arith}
use Rattle.std.specs.Prelude.{Bool, true, false, nat_lt, replicate, slice_index_or, slice_set, Ok, Err, IfOk, IfSome}
use Rattle.std.specs.declared.result.Result.{Result}
use Rattle.std.specs.declared.boxed.Box.{Box}
use Rattle.std.specs.declared.alloc.Global.{Global}
use Rattle.std.proofs.lemmas.Bool.Decides.{nat_tests}
use Rattle.std.proofs.lemmas.List.{take-append-drop, take-append-le, drop-append-le, length-take, length-drop, length-append, length-replicate, take_min}
use Rattle.std.proofs.Math.Seq.{drop-append-add, get_or-append_right}
use Rattle.std.proofs.Math.ListN.{get_or-append, length-set}
use Rattle.graph_model.specs.declared.row.Key.{Key}
use Rattle.graph_model.specs.declared.row.Row.{Row}
use Rattle.graph_model.specs.Rows.{first_key, end_key}
use Rattle.gap_segment.specs.Fenced.{AreSorted, AreWithin, first_key_or}
use Rattle.leaf_array.specs.declared.leaf.Leaf.{Leaf}
use Rattle.leaf_table.specs.Settled.{AreLeavesFrom, AreSettled, IsLeafFrom, IsLeafOf}
use Rattle.leaf_table.proofs.FillLemmas.{sorted_front, sorted_back, all_within_back}

-- ---- rows in parts

pub all_within_front : (low high : Key) (xs ys : List Row) → AreWithin low high (xs ++ ys) → AreWithin low high xs
all_within_front low high [] ys within = tt
all_within_front low high (x ∷ xs) ys within = (within.0, all_within_front low high xs ys within.1)

parted : (n at : ℕ) (rows : List Row) → rows ≡ take at rows ++ (take n (drop at rows) ++ drop n (drop at rows))
parted n at rows = sym (take-append-drop at rows) ∙ ap (λ ys. take at rows ++ ys) (sym (take-append-drop n (drop at rows)))

pub seen_sorted : (n at : ℕ) (rows : List Row) → AreSorted rows → AreSorted (take n (drop at rows))
seen_sorted n at rows sorted =
    sorted_front (take n (drop at rows)) (drop n (drop at rows)) (sorted_back (take at rows) (take n (drop at rows) ++ drop n (drop at rows)) (subst AreSorted (parted n at rows) sorted))

pub seen_within : (n at : ℕ) (rows : List Row) → AreWithin first_key end_key rows → AreWithin first_key end_key (take n (drop at rows))
seen_within n at rows within =
    all_within_front first_key end_key (take n (drop at rows)) (drop n (drop at rows))
    (all_within_back first_key end_key (take at rows) (take n (drop at rows) ++ drop n (drop at rows)) (subst (AreWithin first_key end_key) (parted n at rows) within))

-- the rows of both lists from a place in the first on, no more than so many
pub seen_both : (n at : ℕ) (front back here behind : List Row) → at ≤ length front → here ≡ take (min (length (drop at front)) n) (drop at front) → behind ≡ take (min (length back) (n - length here)) back
    → here ++ behind ≡ take n (drop at (front ++ back))
seen_both n at front back here behind le is rest =
    ap₂ (λ xs ys. xs ++ ys) is (rest ∙ ap (λ k. take (min (length back) (n - k)) back) (ap length is)) ∙ go n (drop at front) ∙ sym (ap (take n) (drop-append-le at front back le))
  where
    all : (m : ℕ) (ys : List Row) → take (min (length ys) m) ys ≡ take m ys
    all m ys = let turned : min (length ys) m ≡ min m (length ys) = omega arith in ap (λ k. take k ys) turned ∙ take_min m ys

    takes : (n : ℕ) (xs : List Row) → take n xs ++ take (n - length (take n xs)) back ≡ take n (xs ++ back)
    takes zero [] = refl
    takes zero (x ∷ xs) = refl
    takes (suc n) [] = let none : suc n - 0 ≡ suc n = omega arith in ap (λ k. take k back) none
    takes (suc n) (x ∷ xs) = let less : suc n - suc (length (take n xs)) ≡ n - length (take n xs) = omega arith in ap (λ k. (x ∷ take n xs) ++ take k back) less ∙ ap (λ zs. x ∷ zs) (takes n xs)

    go : (n : ℕ) (xs : List Row) → take (min (length xs) n) xs ++ take (min (length back) (n - length (take (min (length xs) n) xs))) back ≡ take n (xs ++ back)
    go n xs = ap₂ (λ ys k. ys ++ take (min (length back) (n - k)) back) (all n xs) (ap length (all n xs)) ∙ ap (λ ys. take n xs ++ ys) (all (n - length (take n xs)) back) ∙ takes n xs

-- ---- a leaf is told by its rows and the one behind them

abbrev count : List Row → ℕ
count xs = min (length xs) 208

abbrev low_in : List Row → Key
low_in xs = first_key_or (take (count xs) xs) end_key

abbrev high_in : List Row → Key
high_in xs = first_key_or (drop (count xs) xs) end_key

take_seen : (n m : ℕ) (xs : List Row) → n ≤ m → take n (take m xs) ≡ take n xs
take_seen zero m xs le = refl
take_seen (suc n) zero xs le = absurd (omega (arith, le))
take_seen (suc n) (suc m) [] le = refl
take_seen (suc n) (suc m) (x ∷ xs) le = ap (λ ys. x ∷ ys) (take_seen n m xs (omega (arith, le)))

first_seen : (n m : ℕ) (xs : List Row) (e : Key) → n < m → first_key_or (drop n (take m xs)) e ≡ first_key_or (drop n xs) e
first_seen n zero xs e lt = absurd (omega (arith, lt))
first_seen zero (suc m) [] e lt = refl
first_seen zero (suc m) (x ∷ xs) e lt = refl
first_seen (suc n) (suc m) [] e lt = refl
first_seen (suc n) (suc m) (x ∷ xs) e lt = first_seen n m xs e (omega (arith, lt))

record Seen (xs : List Row) : Type 0 where
  here : take (count (take 209 xs)) (take 209 xs) ≡ take (count xs) xs
  high : high_in (take 209 xs) ≡ high_in xs

seen : (xs : List Row) → Seen xs
seen xs =
    let long = length-take 209 xs in
    let same : count (take 209 xs) ≡ count xs = omega (arith, long) in
    record {
      here = ap (λ n. take n (take 209 xs)) same ∙ take_seen (count xs) 209 xs (omega arith);
      high = ap (λ n. first_key_or (drop n (take 209 xs)) end_key) same ∙ first_seen (count xs) 209 xs end_key (omega arith);
    }

pub shown : (low : Key) (xs : List Row) (memory : Box Leaf Global) → IsLeafOf low (take 209 xs) memory → IsLeafOf low xs memory
shown low xs memory is = record {
  settled = subst (λ high. AreSettled low high (take (count xs) xs) memory.value.segments) (seen xs).high (subst (λ here. AreSettled low (high_in (take 209 xs)) here memory.value.segments) (seen xs).here is.settled);
  leaf = is.leaf;
}

hidden : (low : Key) (xs : List Row) (memory : Box Leaf Global) → IsLeafOf low xs memory → IsLeafOf low (take 209 xs) memory
hidden low xs memory is = record {
  settled = subst (λ high. AreSettled low high (take (count (take 209 xs)) (take 209 xs)) memory.value.segments) (sym (seen xs).high) (subst (λ here. AreSettled low (high_in xs) here memory.value.segments) (sym (seen xs).here) is.settled);
  leaf = is.leaf;
}

pub from_shown : (rows gathered : List Row) (at : ℕ) (memory : Box Leaf Global) → gathered ≡ take 209 (drop at rows) → IsLeafFrom gathered 0 memory → IsLeafFrom rows at memory
from_shown rows gathered at memory is made =
    let xs = drop at rows in
    let made' : IsLeafOf (low_in (take 209 xs)) (take 209 xs) memory = subst (λ ys. IsLeafOf (low_in ys) ys memory) is made in
    subst (λ low. IsLeafOf low xs memory) (ap (λ ys. first_key_or ys end_key) (seen xs).here) (shown (low_in (take 209 xs)) xs memory made')

-- the rows of a leaf and the one behind are in the first list
pub from_front : (front back : List Row) (at : ℕ) (memory : Box Leaf Global) → at ≤ length front → 208 < length front - at → IsLeafFrom front at memory → IsLeafFrom (front ++ back) at memory
from_front front back at memory le long made =
    let xs = drop at front in
    let split : drop at (front ++ back) ≡ xs ++ back = drop-append-le at front back le in
    let same : take 209 (xs ++ back) ≡ take 209 xs = take-append-le 209 xs back (omega (arith, length-drop at front, long)) in
    from_shown (front ++ back) (take 209 xs) at memory (sym (ap (take 209) split ∙ same))
    (subst (λ low. IsLeafOf low (take 209 xs) memory) (sym (ap (λ ys. first_key_or ys end_key) (seen xs).here)) (hidden (low_in xs) xs memory made))

-- they are in the second
pub from_back : (front back : List Row) (at : ℕ) (memory : Box Leaf Global) → length front ≤ at → IsLeafFrom back (at - length front) memory → IsLeafFrom (front ++ back) at memory
from_back front back at memory le made =
    let place : at ≡ length front + (at - length front) = omega (arith, le) in
    let same : drop at (front ++ back) ≡ drop (at - length front) back = ap (λ n. drop n (front ++ back)) place ∙ drop-append-add front back (at - length front) in
    subst (λ rest. IsLeafOf (low_in rest) rest memory) (sym same) made

pub ok_also : {E : Type 0} (P Q : Box Leaf Global → Type 0) → ((memory : Box Leaf Global) → P memory → Q memory) → (result : Result (Box Leaf Global) E) → IfOk result P → IfOk result Q
ok_also P Q also (Ok memory) is = also memory is
ok_also P Q also (Err refused) is = tt

-- ---- all leaves

abbrev Table : Type 0
Table = List (Option (Box Leaf Global))

-- leaves that begin in the first list, or where it ends, and those behind them
pub joined : (front back : List Row) (behind : ℕ) (near far : Table) → (1 ≤ length far → (length front ≤ 208 + 208 * length near) × (behind ≡ 208 + 208 * length near - length front))
    → AreLeavesFrom (front ++ back) 208 near → AreLeavesFrom back behind far → AreLeavesFrom (front ++ back) 208 (near ++ far)
joined front back behind near far follow first second = λ i d inside. by_place i d (subst (λ n. i < n) (length-append near far) inside) (nat_lt i (length near)) refl
  where
    kept : (i k : ℕ) (memory : Option (Box Leaf Global)) → length front ≤ 208 + 208 * i → k ≡ 208 + 208 * i - length front → IfSome memory (IsLeafFrom back k) → IfSome memory (IsLeafFrom (front ++ back) (208 + 208 * i))
    kept i k None le e made = tt
    kept i k (Some memory) le e made = from_back front back (208 + 208 * i) memory le (subst (λ n. IsLeafFrom back n memory) e made)

    by_place : (i : ℕ) (d : Option (Box Leaf Global)) → i < length near + length far → (t : Bool) → nat_lt i (length near) ≡ t → IfSome (get_or (near ++ far) i d) (IsLeafFrom (front ++ back) (208 + 208 * i))
    by_place i d inside true e =
        let lt : i < length near = grind (arith, nat_tests, e) in
        subst (λ memory. IfSome memory (IsLeafFrom (front ++ back) (208 + 208 * i))) (sym (get_or-append near far d i lt)) (first i d lt)
    by_place i d inside false e =
        let le : length near ≤ i = grind (arith, nat_tests, e) in
        let f = follow (omega (arith, le, inside)) in
        subst (λ memory. IfSome memory (IsLeafFrom (front ++ back) (208 + 208 * i))) (sym (get_or-append_right near far i d le))
        (kept i (behind + 208 * (i - length near)) (get_or far (i - length near) d) (omega (arith, f.0, le)) (omega (arith, f.0, f.1, le)) (second (i - length near) d (omega (arith, le, inside))))

-- leaves are made one by one, and there is a place for each
pub record MadeSoFar (rows : List Row) (places : ℕ) (table : Table) : Type 0 where
  pub made : AreLeavesFrom rows 208 table
  pub count : length table ≡ places

pub none_made : (rows : List Row) (first n : ℕ) → AreLeavesFrom rows first (replicate n None)
none_made rows first n = λ i d inside. subst (λ memory. IfSome memory (IsLeafFrom rows (first + 208 * i))) (sym (none_at n i d (omega (arith, inside, length-replicate n (let none : Option (Box Leaf Global) = None in none))))) tt
  where
    none_at : (n i : ℕ) (d : Option (Box Leaf Global)) → i < n → get_or (replicate n None) i d ≡ None
    none_at zero i d lt = absurd (omega (arith, lt))
    none_at (suc n) zero d lt = refl
    none_at (suc n) (suc i) d lt = none_at n i d (omega (arith, lt))

pub one_made : (rows : List Row) (first place : ℕ) (made : Table) (memory : Box Leaf Global) → AreLeavesFrom rows first made → IsLeafFrom rows (first + 208 * place) memory → AreLeavesFrom rows first (slice_set made place (Some memory))
one_made rows first place made memory are is = λ i d inside.
    go (IsLeafFrom rows (first + 208 * i)) made place i d (λ e. subst (λ n. IsLeafFrom rows (first + 208 * n) memory) (sym e) is) (are i d (omega (arith, inside, length-set made place (Some memory))))
  where
    go : (P : Box Leaf Global → Type 0) (made : Table) (place i : ℕ) (d : Option (Box Leaf Global)) → (i ≡ place → P memory) → IfSome (slice_index_or made i d) P → IfSome (slice_index_or (slice_set made place (Some memory)) i d) P
    go P [] place i d here old = old
    go P (x ∷ made) zero zero d here old = here refl
    go P (x ∷ made) zero (suc i) d here old = old
    go P (x ∷ made) (suc place) zero d here old = old
    go P (x ∷ made) (suc place) (suc i) d here old = go P made place i d (λ e. here (ap suc e)) old

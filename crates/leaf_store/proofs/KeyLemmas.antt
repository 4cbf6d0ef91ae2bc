-- Rows of segments behind one another stand within their outer fence keys, in rising order.
use Rattle.std.proofs.Common.{inl, inr, ◌≡◌, ℕ, zero, suc, ◌-◌, ◌/◌, ◌<◌, ◌≤◌, List, [], ◌∷◌, ◌++◌, length, refl, sym, ◌∙◌, ap, subst, arith}
use Rattle.std.specs.Prelude.{Bool, true, false, ◌⊎◌, Option, Some, None, slice_get, IsSomeAnd}
use Rattle.std.specs.List.{AllByRecursion}
use Rattle.graph_model.specs.declared.row.Key.{Key}
use Rattle.graph_model.specs.Rows.{is_below, is_between}
use Rattle.graph_model.proofs.KeyLemmas.{below_up, between_parts, upto_chain}
use Rattle.graph_model.proofs.PlaceLemmas.{some_eq}
use Rattle.store_model.specs.Stamped.{StampedVersions}
use Rattle.leaf_table.specs.VersionSegment.Keyed.{RisesBy}
use Rattle.leaf_table.specs.VersionSegment.Rows.{VersionedRows}
use Rattle.leaf_table.specs.LeafArray.Segments.{rows_of, high_or}
use Rattle.leaf_table.specs.LeafArray.Leaves.{IsSplitKey}
use Rattle.leaf_table.proofs.LeafArray.LeafLemmas.{Follow}
use Rattle.leaf_store.proofs.CellLemmas.{AreSound, clash, low_to_high}

-- a key above one that is not below another one is above that one
pub from_above : (low r k : Key) → is_below r low ≡ false → is_below r k ≡ true → is_below low k ≡ true
from_above low r k from below = by_test (is_below low k) refl
  where
    by_test : (t : Bool) → is_below low k ≡ t → is_below low k ≡ true
    by_test true e = e
    by_test false e = clash _ below (upto_chain k low r e from)

-- from the low fence key on, above it from the second one on, and below the high one
record IsWithin (low high : Key) (n : ℕ) (k : Key) : Type 0 where
  from : is_below k low ≡ false
  above : 1 ≤ n → is_below low k ≡ true
  until : is_below k high ≡ true

all_at : {X : Type 0} (P : X → Type 0) (xs : List X) (n : ℕ) (x : X) → AllByRecursion P xs → slice_get xs n ≡ Some x → P x
all_at P [] n x all at = cc
all_at P (y ∷ ys) zero x all at = subst P (some_eq y x at) all.0
all_at P (y ∷ ys) (suc n) x all at = all_at P ys n x all.1 at

in_segment : (low high : Key) (rows : List (Key × StampedVersions)) (n : ℕ) (row : Key × StampedVersions) → RisesBy (λ r. r.0) rows → AllByRecursion (λ r. is_between low high r.0 ≡ true) rows → slice_get rows n ≡ Some row → IsWithin low high n row.0
in_segment low high [] n row rises within at = cc
in_segment low high (r ∷ rows) zero row rises within at =
    let p = between_parts low high row.0 (subst (λ (x : Key × StampedVersions). is_between low high x.0 ≡ true) (some_eq r row at) within.0) in
    record { from = p.0; above = λ some. absurd (omega (arith, some)); until = p.1 }
in_segment low high (r ∷ rows) (suc n) row rises within at =
    let p = between_parts low high row.0 (all_at (λ x. is_between low high x.0 ≡ true) rows n row within.1 at) in
    record { from = p.0; above = λ some. from_above low r.0 row.0 (between_parts low high r.0 within.0).0 (all_at (λ x. is_below r.0 x.0 ≡ true) rows n row rises.0 at); until = p.1 }

-- a row of the first part, or one behind it
record IsRead (xs ys : List (Key × StampedVersions)) (n : ℕ) (row : Key × StampedVersions) : Type 0 where
  first : n < length xs → slice_get xs n ≡ Some row
  then : length xs ≤ n → slice_get ys (n - length xs) ≡ Some row

read_parts : (xs ys : List (Key × StampedVersions)) (n : ℕ) (row : Key × StampedVersions) → slice_get (xs ++ ys) n ≡ Some row → IsRead xs ys n row
read_parts [] ys n row at = let same : n - 0 ≡ n = omega arith in record { first = λ lt. absurd (omega (arith, lt)); then = λ le. ap (slice_get ys) same ∙ at }
read_parts (x ∷ xs) ys zero row at = record { first = λ lt. at; then = λ le. absurd (omega (arith, le)) }
read_parts (x ∷ xs) ys (suc n) row at =
    let rest = read_parts xs ys n row at in
    record {
      first = λ lt. rest.first (omega (arith, lt));
      then = λ le. let same : suc n - length (x ∷ xs) ≡ n - length xs = omega arith in ap (slice_get ys) same ∙ rest.then (omega (arith, le));
    }

rows_within : (low : Key) (ss : List VersionedRows) (n : ℕ) (row : Key × StampedVersions) → Follow low ss → AreSound ss → slice_get (rows_of ss) n ≡ Some row → IsWithin low (high_or ss low) n row.0
rows_within low [] n row follow sound at = cc
rows_within low (s ∷ ss) n row follow sound at = by_place (less n (length s.rows)) (λ k there. rows_within s.high ss k row follow.1 sound.1 there)
  where
    read : IsRead s.rows (rows_of ss) n row
    read = read_parts s.rows (rows_of ss) n row at

    less : (a b : ℕ) → (a < b) ⊎ (b ≤ a)
    less zero zero = inr (omega arith)
    less zero (suc b) = inl (omega arith)
    less (suc a) zero = inr (omega arith)
    less (suc a) (suc b) = elim (less a b) as (λ _. (suc a < suc b) ⊎ (suc b ≤ suc a)) [ inl h ↦ inl (omega (arith, h)) | inr h ↦ inr (omega (arith, h)) ]

    -- the first row of the segment is below its end
    above_first : (rows : List (Key × StampedVersions)) → AllByRecursion (λ r. is_between s.low s.high r.0 ≡ true) rows → 1 ≤ length rows → is_below row.0 s.high ≡ false → is_below s.low row.0 ≡ true
    above_first [] within some from = absurd (omega (arith, some))
    above_first (r ∷ rows) within some from =
        let p = between_parts s.low s.high r.0 within.0 in
        from_above s.low r.0 row.0 p.0 (below_up r.0 s.high row.0 p.1 from)

    after_rows : (m : ℕ) → length s.rows ≡ m → length s.rows ≤ n → IsWithin s.high (high_or ss s.high) (n - length s.rows) row.0 → 1 ≤ n → is_below s.low row.0 ≡ true
    after_rows zero none le rest some =
        from_above s.low s.high row.0 sound.0.fences (rest.above (omega (arith, none, some)))
    after_rows (suc m) count le rest some = above_first s.rows sound.0.within (omega (arith, count)) rest.from

    by_place : (n < length s.rows) ⊎ (length s.rows ≤ n) → ((k : ℕ) → slice_get (rows_of ss) k ≡ Some row → IsWithin s.high (high_or ss s.high) k row.0) → IsWithin low (high_or ss s.high) n row.0
    by_place (inl lt) ih =
        let here = in_segment s.low s.high s.rows n row sound.0.rising sound.0.within (read.first lt) in
        subst (λ k. IsWithin k (high_or ss s.high) n row.0) follow.0 (record { from = here.from; above = here.above; until = below_up row.0 s.high (high_or ss s.high) here.until (low_to_high s.high ss follow.1 sound.1) })
    by_place (inr le) ih =
        let rest = ih (n - length s.rows) (read.then le) in
        subst (λ k. IsWithin k (high_or ss s.high) n row.0) follow.0 (record { from = upto_chain s.low s.high row.0 sound.0.fences rest.from; above = λ some. after_rows (length s.rows) refl le rest some; until = rest.until })

-- where a leaf is split the right one begins above the left one, and below its end
pub split_key_within : (low key : Key) (ss : List VersionedRows) → Follow low ss → AreSound ss → 207 ≤ length (rows_of ss) → IsSplitKey ss key → (is_below low key ≡ true) × (is_below key (high_or ss low) ≡ true)
split_key_within low key ss follow sound many is = by_row (slice_get (rows_of ss) (length (rows_of ss) - length (rows_of ss) / 2)) refl is
  where
    by_row : (o : Option (Key × StampedVersions)) → slice_get (rows_of ss) (length (rows_of ss) - length (rows_of ss) / 2) ≡ o → IsSomeAnd o (λ row. key ≡ row.0) → (is_below low key ≡ true) × (is_below key (high_or ss low) ≡ true)
    by_row None at same = absurd same
    by_row (Some row) at same =
        let w = rows_within low ss (length (rows_of ss) - length (rows_of ss) / 2) row follow sound at in
        (ap (is_below low) same ∙ w.above (omega (arith, many)), ap (λ k. is_below k (high_or ss low)) same ∙ w.until)

-- there is one such key
pub one_split_key : (ss : List VersionedRows) (key other : Key) → IsSplitKey ss key → IsSplitKey ss other → key ≡ other
one_split_key ss key other is also = by_row (slice_get (rows_of ss) (length (rows_of ss) - length (rows_of ss) / 2)) is also
  where
    by_row : (o : Option (Key × StampedVersions)) → IsSomeAnd o (λ row. key ≡ row.0) → IsSomeAnd o (λ row. other ≡ row.0) → key ≡ other
    by_row None same also = absurd same
    by_row (Some row) same also = same ∙ sym also

-- Rows in rising order, laid in segments one behind the other.
use Rattle.std.proofs.Common.{◌≡◌, ℕ, ◌+◌, ◌*◌, ◌≤◌, List, [], ◌∷◌, ◌++◌, length, take, drop, refl, sym, ◌∙◌, ap, ap₂, subst, arith, length-append, append_assoc}
use Rattle.std.specs.Prelude.{true, false}
use Rattle.std.proofs.lemmas.List.{map-append, take-append-drop, length-take-le}
use Rattle.std.proofs.Math.Seq.{take-append_seam, drop-append_seam}
use Rattle.graph_model.specs.declared.row.Key.{Key}
use Rattle.graph_model.specs.declared.row.Row.{Row}
use Rattle.graph_model.specs.Rows.{is_below, first_key, end_key}
use Rattle.graph_model.proofs.KeyLemmas.{below_flip, below_self, between_of, between_parts}
use Rattle.store_model.specs.Stamped.{StampedVersions}
use Rattle.gap_segment.specs.Fenced.{AreAbove, AreSorted, AreWithin, first_key_or}
use Rattle.leaf_array.specs.VersionSegment.Rows.{VersionedRows, settled_row, settled_rows}
use Rattle.leaf_array.specs.Segments.{rows_of, low_or, high_or}
use Rattle.leaf_table.specs.Settled.{AreSettled, next_key}

-- ---- rows in two parts

above_front : (key : Key) (xs ys : List Row) → AreAbove key (xs ++ ys) → AreAbove key xs
above_front key [] ys above = tt
above_front key (x ∷ xs) ys above = (above.0, above_front key xs ys above.1)

above_back : (key : Key) (xs ys : List Row) → AreAbove key (xs ++ ys) → AreAbove key ys
above_back key [] ys above = above
above_back key (x ∷ xs) ys above = above_back key xs ys above.1

pub sorted_front : (xs ys : List Row) → AreSorted (xs ++ ys) → AreSorted xs
sorted_front [] ys sorted = tt
sorted_front (x ∷ xs) ys sorted = (above_front x.key xs ys sorted.0, sorted_front xs ys sorted.1)

pub sorted_back : (xs ys : List Row) → AreSorted (xs ++ ys) → AreSorted ys
sorted_back [] ys sorted = sorted
sorted_back (x ∷ xs) ys sorted = sorted_back xs ys sorted.1

-- the first part ends where the first row behind it begins
pub within_front : (low high : Key) (xs ys : List Row) → AreSorted (xs ++ ys) → AreWithin low high (xs ++ ys) → AreWithin low (first_key_or ys high) xs
within_front low high [] ys sorted within = tt
within_front low high (x ∷ xs) ys sorted within =
    let p = between_parts low high x.key within.0 in
    (between_of low (first_key_or ys high) x.key p.0 (until ys (above_back x.key xs ys sorted.0) p.1), within_front low high xs ys sorted.1 within.1)
  where
    until : (ys : List Row) → AreAbove x.key ys → is_below x.key high ≡ true → is_below x.key (first_key_or ys high) ≡ true
    until [] above below = below
    until (y ∷ ys) above below = above.0

pub all_within_back : (low high : Key) (xs ys : List Row) → AreWithin low high (xs ++ ys) → AreWithin low high ys
all_within_back low high [] ys within = within
all_within_back low high (x ∷ xs) ys within = all_within_back low high xs ys within.1

pub within_back : (low high : Key) (xs ys : List Row) → AreSorted (xs ++ ys) → AreWithin low high (xs ++ ys) → AreWithin (first_key_or ys high) high ys
within_back low high xs ys sorted within = from_first ys (sorted_back xs ys sorted) (all_within_back low high xs ys within)
  where
    from : (key : Key) (ys : List Row) → AreAbove key ys → AreWithin low high ys → AreWithin key high ys
    from key [] above within = tt
    from key (y ∷ ys) above within = (between_of key high y.key (below_flip key y.key above.0) (between_parts low high y.key within.0).1, from key ys above.1 within.1)

    from_first : (ys : List Row) → AreSorted ys → AreWithin low high ys → AreWithin (first_key_or ys high) high ys
    from_first [] sorted within = tt
    from_first (y ∷ ys) sorted within = (between_of y.key high y.key (below_self y.key) (between_parts low high y.key within.0).1, from y.key ys sorted.0 within.1)

-- it lies between both fence keys
pub cut_from : (low high : Key) (xs ys : List Row) → is_below high low ≡ false → AreWithin low high (xs ++ ys) → is_below (first_key_or ys high) low ≡ false
cut_from low high xs [] fences within = fences
cut_from low high xs (y ∷ ys) fences within = (between_parts low high y.key (all_within_back low high xs (y ∷ ys) within).0).0

pub cut_until : (low high : Key) (xs ys : List Row) → AreWithin low high (xs ++ ys) → is_below high (first_key_or ys high) ≡ false
cut_until low high xs [] within = below_self high
cut_until low high xs (y ∷ ys) within = below_flip y.key high (between_parts low high y.key (all_within_back low high xs (y ∷ ys) within).0).1

-- ---- segments

no_first : (xs ys : List (Key × StampedVersions)) → xs ++ ys ≡ [] → (xs ≡ []) × (ys ≡ [])
no_first [] ys none = (refl, none)
no_first (x ∷ xs) ys none = cc

-- neither the first segment nor the others have rows
pub parts_empty : (ss : List VersionedRows) (s : VersionedRows) (rest : List VersionedRows) → ss ≡ s ∷ rest → rows_of ss ≡ [] → (s.rows ≡ []) × (rows_of rest ≡ [])
parts_empty ss s rest is none = no_first s.rows (rows_of rest) (sym (ap rows_of is) ∙ none)

-- no segments, and no rows
pub none_settled : (low high : Key) (rows : List Row) (ss : List VersionedRows) → length ss ≡ 0 → low ≡ high → length rows ≤ 26 * length ss → AreSettled low high rows ss
none_settled low high [] [] none same few = record { begins = refl; chained = tt; ends = same; rows_are = refl }
none_settled low high (r ∷ rows) [] none same few = absurd (omega (arith, few))
none_settled low high rows (s ∷ ss) none same few = absurd (omega (arith, none))

pub more_settled : (low cut high : Key) (rows here behind : List Row) (s : VersionedRows) (rest : List VersionedRows) → rows ≡ here ++ behind → s.low ≡ low → s.high ≡ cut → s.rows ≡ settled_rows here → AreSettled cut high behind rest → AreSettled low high rows (s ∷ rest)
more_settled low cut high rows here behind s rest are begins ends own others = record {
  begins = begins;
  chained = (subst (λ k. low_or rest k ≡ k) (sym ends) others.begins, others.chained);
  ends = ap (high_or rest) ends ∙ others.ends;
  rows_are = ap₂ (λ xs ys. xs ++ ys) own others.rows_are ∙ sym (map-append settled_row here behind) ∙ ap settled_rows (sym are);
}

-- where nothing is behind, the first part ends at the end
pub last_cut : (high : Key) (ys : List Row) → length ys ≡ 0 → first_key_or ys high ≡ high
last_cut high [] none = refl
last_cut high (y ∷ ys) none = absurd (omega (arith, none))

-- ---- the rows of the next leaf

pub record NextRows (rows here behind : List Row) (at : ℕ) : Type 0 where
  pub low : is_below (first_key_or here end_key) (first_key_or behind end_key) ≡ true
  pub sorted : AreSorted here
  pub within : AreWithin (first_key_or here end_key) (first_key_or behind end_key) here
  pub until : is_below end_key (first_key_or behind end_key) ≡ false
  pub begin : next_key rows at ≡ first_key_or here end_key
  pub front : take (at + length here) rows ≡ take at rows ++ here
  pub rest : drop (at + length here) rows ≡ behind
  pub all : length rows ≡ at + length here + length behind

take_more_of : (xs here behind : List Row) → (take (length xs + length here) (xs ++ (here ++ behind)) ≡ xs ++ here) × (drop (length xs + length here) (xs ++ (here ++ behind)) ≡ behind)
take_more_of xs here behind =
    let size : length xs + length here ≡ length (xs ++ here) = sym (length-append xs here) in
    (ap₂ take size (sym (append_assoc xs here behind)) ∙ take-append_seam (xs ++ here) behind, ap₂ drop size (sym (append_assoc xs here behind)) ∙ drop-append_seam (xs ++ here) behind)

pub next_rows : (rows here behind : List Row) (at : ℕ) → AreSorted rows → AreWithin first_key end_key rows → at ≤ length rows → drop at rows ≡ here ++ behind → 1 ≤ length here → NextRows rows here behind at
next_rows rows [] behind at sorted within le is some = absurd (omega (arith, some))
next_rows rows (r ∷ here) behind at sorted within le is some =
    let xs = take at rows in
    let size : length xs ≡ at = length-take-le at rows le in
    let all : rows ≡ xs ++ ((r ∷ here) ++ behind) = sym (take-append-drop at rows) ∙ ap (λ ys. xs ++ ys) is in
    let sorted' : AreSorted ((r ∷ here) ++ behind) = sorted_back xs ((r ∷ here) ++ behind) (subst AreSorted all sorted) in
    let within' : AreWithin first_key end_key ((r ∷ here) ++ behind) = all_within_back first_key end_key xs ((r ∷ here) ++ behind) (subst (AreWithin first_key end_key) all within) in
    let parts = take_more_of xs (r ∷ here) behind in
    let count : at + length (r ∷ here) ≡ length xs + length (r ∷ here) = omega (arith, size) in
    record {
      low = next behind sorted'.0 (between_parts first_key end_key r.key within'.0).1;
      sorted = sorted_front (r ∷ here) behind sorted';
      within = within_front r.key end_key (r ∷ here) behind sorted' (within_back first_key end_key [] ((r ∷ here) ++ behind) sorted' within');
      until = cut_until first_key end_key (r ∷ here) behind within';
      begin = ap (λ ys. first_key_or ys end_key) is;
      front = ap₂ take count all ∙ parts.0;
      rest = ap₂ drop count all ∙ parts.1;
      all = omega (arith, ap length all, length-append xs ((r ∷ here) ++ behind), length-append (r ∷ here) behind, size);
    }
  where
    next : (ys : List Row) → AreAbove r.key (here ++ ys) → is_below r.key end_key ≡ true → is_below r.key (first_key_or ys end_key) ≡ true
    next [] above until = until
    next (y ∷ ys) above until = (above_last here above)
      where
        above_last : (xs : List Row) → AreAbove r.key (xs ++ y ∷ ys) → is_below r.key y.key ≡ true
        above_last [] above = above.0
        above_last (x ∷ xs) above = above_last xs above.1

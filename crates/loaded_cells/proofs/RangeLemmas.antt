-- The segments that a leaf's rows are divided among.
use Rattle.std.proofs.Common.{◌≡◌, ℕ, zero, suc, ◌*◌, ◌≤◌, List, [], ◌∷◌, ◌++◌, length, map, take, drop, refl, sym, ◌∙◌, ap, subst, arith, append_assoc}
use Rattle.std.specs.Prelude.{true, false, replicate}
use Rattle.std.specs.List.{AllByRecursion}
use Rattle.std.proofs.lemmas.List.{take-append-drop, length-take, length-drop, length-map}
use Rattle.graph_model.specs.declared.row.Key.{Key}
use Rattle.graph_model.specs.declared.row.Row.{Row}
use Rattle.graph_model.specs.Rows.{is_below, is_between}
use Rattle.rule_model.specs.VersionSegment.Keyed.{RisesBy}
use Rattle.gap_segment.specs.Fenced.{AreAbove, AreSorted, AreWithin, first_key_or}
use Rattle.store_model.specs.Stamped.{StampedVersions}
use Rattle.rule_model.specs.VersionSegment.Rows.{IsSegment, VersionedRows, is_nothing, settled_rows, settled_row}
use Rattle.rule_model.specs.VersionSegment.Resting.{resting_row, settled_rest, word_row}
use Rattle.rule_model.specs.LeafStore.Settled.{AreSettled}
use Rattle.rule_model.proofs.LeafStore.FillLemmas.{cut_from, cut_until, last_cut, more_settled, none_settled, sorted_back, sorted_front, within_back, within_front}
use Rattle.loaded_cells.specs.Ranges.{AreIdle, IsIdleRange, eight_or_idle, leaf_segments, segment_of, segments_from}
use Rattle.loaded_cells.specs.declared.fill.LoadedRange.{LoadedRange}

-- ---- settled rows

settled_above : (key : Key) (rows : List Row) → AreAbove key rows
    → AllByRecursion (λ (y : Key × StampedVersions). is_below key y.0 ≡ true) (settled_rows rows)
settled_above key [] above = tt
settled_above key (r ∷ rows) above = (above.0, settled_above key rows above.1)

settled_rise : (rows : List Row) → AreSorted rows → RisesBy (λ (row : Key × StampedVersions). row.0) (settled_rows rows)
settled_rise [] sorted = tt
settled_rise (r ∷ rows) sorted = (settled_above r.key rows sorted.0, settled_rise rows sorted.1)

settled_within : (low high : Key) (rows : List Row) → AreWithin low high rows
    → AllByRecursion (λ (row : Key × StampedVersions). is_between low high row.0 ≡ true) (settled_rows rows)
settled_within low high [] within = tt
settled_within low high (r ∷ rows) within = (within.0, settled_within low high rows within.1)

settled_something : (rows : List Row)
    → AllByRecursion (λ (row : Key × StampedVersions). is_nothing row.1 ≡ false) (settled_rows rows)
settled_something [] = tt
settled_something (r ∷ rows) = (refl, settled_something rows)

-- a word tells a settled row's weight
pub settled_words : (rows : List Row) → map word_row (settled_rows rows) ≡ rows
settled_words [] = refl
settled_words (r ∷ rows) = ap (λ l. r ∷ l) (settled_words rows)

-- and nothing else is left of it
pub settled_rests : (rows : List Row) → settled_rest (length rows) ≡ map resting_row (settled_rows rows)
settled_rests [] = refl
settled_rests (r ∷ rows) = ap (λ l. resting_row (settled_row r) ∷ l) (settled_rests rows)

-- ---- segments

pub length_from : (n : ℕ) (low high : Key) (rows : List Row) → length (segments_from n low high rows) ≡ n
length_from zero low high rows = refl
length_from (suc n) low high rows = ap suc (length_from n _ _ _)

-- they are sound, and have these rows
pub settled_from : (n : ℕ) (low high : Key) (rows : List Row) → length rows ≤ 26 * n → is_below high low ≡ false
    → (n ≡ 0 → low ≡ high) → AreSorted rows → AreWithin low high rows
    → AreSettled low high rows (segments_from n low high rows)
    × AllByRecursion IsSegment (segments_from n low high rows)
settled_from zero low high rows few fences none sorted within = (none_settled low high rows [] refl (none refl) few, tt)
settled_from (suc n) low high rows few fences none sorted within =
    let here : List Row = take 26 rows in
    let behind : List Row = drop 26 rows in
    let cut : Key = first_key_or behind high in
    let are : rows ≡ here ++ behind = sym (take-append-drop 26 rows) in
    let sorted' = subst AreSorted are sorted in
    let within' = subst (AreWithin low high) are within in
    let count = length-drop 26 rows in
    let front = length-take 26 rows in
    let wide = length-map here settled_row in
    let rest = settled_from n cut high behind (omega (arith, count, few)) (cut_until low high here behind within')
    (λ e. last_cut high behind (omega (arith, e, count, few))) (sorted_back here behind sorted')
    (within_back low high here behind sorted' within') in
    let s : VersionedRows = record { low = low; high = cut; rows = settled_rows here; spare = 0 } in
    let sound : IsSegment s = record {
      fences = cut_from low high here behind fences within';
      rising = settled_rise here (sorted_front here behind sorted');
      within = settled_within low cut here (within_front low high here behind sorted' within');
      something = settled_something here;
      small = omega (arith, wide, front);
    } in (
      more_settled low cut high rows here behind s (segments_from n cut high behind) are refl refl refl rest.0,
      (sound, rest.1),
    )

-- ---- leaves

pub eight_segments : (range : LoadedRange) → eight_or_idle (leaf_segments range) ≡ leaf_segments range
eight_segments range = refl

pub idle_segments : (range : LoadedRange) → IsIdleRange range → leaf_segments range ≡ eight_or_idle []
idle_segments range idle =
    λ i. segments_from 8 (idle.low i) (idle.high i) (idle.rows i)

pub all_idle : (n : ℕ) (r : LoadedRange) → IsIdleRange r → AreIdle (replicate n r)
all_idle zero r idle = tt
all_idle (suc n) r idle = (idle, all_idle n r idle)

-- ---- one segment after the other

-- the first segment of a range, and those of the range behind it
pub next_segment : (all front : List VersionedRows) (n m : ℕ) (rest segment behind : LoadedRange) → n ≡ suc m
    → segment.low ≡ rest.low → segment.rows.now ≡ take 26 rest.rows.now
    → segment.high ≡ first_key_or (drop 26 rest.rows.now) rest.high
    → behind.low ≡ first_key_or (drop 26 rest.rows.now) rest.high → behind.high ≡ rest.high
    → behind.rows.now ≡ drop 26 rest.rows.now → all ≡ front ++ segments_from n rest.low rest.high rest.rows.now
    → all ≡ (front ++ segment_of segment ∷ []) ++ segments_from m behind.low behind.high behind.rows.now
next_segment all front n m rest segment behind count low own cut next high back is =
    let one : segments_from (suc m) rest.low rest.high rest.rows.now
    ≡ segment_of segment ∷ segments_from m behind.low behind.high behind.rows.now =
    λ i. record { low = sym low i; high = sym cut i; rows = settled_rows (sym own i); spare = 0 }
    ∷ segments_from m (sym next i) (sym high i) (sym back i) in
    is ∙ ap (λ k. front ++ segments_from k rest.low rest.high rest.rows.now) count ∙ ap (λ ss. front ++ ss) one
    ∙ sym (append_assoc front (segment_of segment ∷ []) (segments_from m behind.low behind.high behind.rows.now))

-- How many rows the cells of a load have, and what is kept of cells with so many.
use Rattle.std.proofs.Common.{◌≡◌, ◌∙◌, ℕ, zero, suc, ◌<◌, ◌≤◌, List, [], ◌∷◌, ◌++◌, length, map, take, drop, refl, sym, ap, subst, arith}
use Rattle.std.specs.Prelude.{slice_index_or}
use Rattle.std.specs.List.{AllByRecursion}
use Rattle.std.proofs.lemmas.List.{length-take, length-map, map-append}
use Rattle.graph_model.specs.declared.row.Key.{Key}
use Rattle.graph_model.specs.declared.row.Row.{Row}
use Rattle.gap_segment.specs.Fenced.{first_key_or}
use Rattle.gap_segment.proofs.FencedLemmas.{all_append}
use Rattle.rule_model.specs.VersionSegment.Resting.{RestingRows, settled_rest}
use Rattle.rule_model.specs.VersionSegment.Rows.{settled_row}
use Rattle.loaded_cells.specs.Numbered.{AreRestOf, rest_rows, resting_rows, row_count, row_counts}
use Rattle.loaded_cells.specs.Ranges.{leaf_segments, loaded_segments, segments_from}
use Rattle.loaded_cells.specs.declared.fill.LoadedRange.{LoadedRange}
use Rattle.loaded_cells.proofs.RangeLemmas.{settled_rests}

-- ---- the cells of a leaf

rest_from : (n : ℕ) (low high : Key) (rows : List Row)
    → map settled_rest (row_counts (segments_from n low high rows)) ≡ map rest_rows (segments_from n low high rows)
rest_from zero low high rows = refl
rest_from (suc n) low high rows =
    let here : List Row = take 26 rows in
    let behind : List Row = drop 26 rows in
    λ i. (ap settled_rest (length-map here settled_row) ∙ settled_rests here) i
    ∷ rest_from n (first_key_or behind high) high behind i

few_from : (n : ℕ) (low high : Key) (rows : List Row)
    → AllByRecursion (λ count. count ≤ 32) (row_counts (segments_from n low high rows))
few_from zero low high rows = tt
few_from (suc n) low high rows =
    let here : List Row = take 26 rows in
    let behind : List Row = drop 26 rows in
    let same = length-map here settled_row in
    let front = length-take 26 rows in
    (omega (arith, same, front), few_from n (first_key_or behind high) high behind)

-- ---- those of all leaves

rest_of : (leaves : List LoadedRange)
    → map settled_rest (row_counts (loaded_segments leaves)) ≡ map rest_rows (loaded_segments leaves)
rest_of [] = refl
rest_of (leaf ∷ leaves) =
    let front = leaf_segments leaf in
    let back = loaded_segments leaves in
    ap (map settled_rest) (map-append row_count front back)
    ∙ map-append settled_rest (row_counts front) (row_counts back)
    ∙ (λ i. rest_from 8 leaf.low leaf.high leaf.rows.now i ++ rest_of leaves i)
    ∙ sym (map-append rest_rows front back)

-- what is kept of cells with so many rows is what is kept of these
pub counts_rest : (leaves : List LoadedRange) (counts : List ℕ) (resting : List RestingRows)
    → counts ≡ row_counts (loaded_segments leaves) → resting_rows resting ≡ map settled_rest counts
    → AreRestOf (loaded_segments leaves) resting
counts_rest leaves counts resting are rests = rests ∙ ap (map settled_rest) are ∙ rest_of leaves

-- no cell has more than it has places
pub counts_few : (leaves : List LoadedRange)
    → AllByRecursion (λ count. count ≤ 32) (row_counts (loaded_segments leaves))
counts_few [] = tt
counts_few (leaf ∷ leaves) =
    let few : List ℕ → Type 0 = AllByRecursion (λ count. count ≤ 32) in
    subst few (sym (map-append row_count (leaf_segments leaf) (loaded_segments leaves)))
    (all_append (λ count. count ≤ 32) (row_counts (leaf_segments leaf)) (row_counts (loaded_segments leaves))
    (few_from 8 leaf.low leaf.high leaf.rows.now) (counts_few leaves))

pub few_at : (counts : List ℕ) (p d : ℕ) → AllByRecursion (λ count. count ≤ 32) counts → p < length counts
    → slice_index_or counts p d ≤ 32
few_at [] p d few less = absurd (omega (arith, less))
few_at (count ∷ counts) zero d few less = few.0
few_at (count ∷ counts) (suc p) d few less = few_at counts p d few.1 (omega (arith, less))

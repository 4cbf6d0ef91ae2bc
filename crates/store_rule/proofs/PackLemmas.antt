-- Contents that are unpacked and packed.
use Rattle.std.proofs.Common.{◌≡◌, ◌≢◌, ◌+◌, List, refl, sym, ◌∙◌, ap, subst, cond, arith, get_or-set_same}
use Rattle.std.specs.Prelude.{Bool, true, false, ◌==◌}
use Rattle.graph_model.specs.declared.row.Key.{Key}
use Rattle.graph_model.specs.declared.row.Row.{Row}
use Rattle.store_model.specs.Stamped.{StampedVersions}
use Rattle.graph_model.specs.Rows.{is_below}
use Rattle.gap_segment.specs.Fenced.{AreSorted, AreWithin}
use Rattle.loaded_cells.specs.VersionSegment.Resting.{AgreeWith, CanWake, RestingRow, RestingRows, resting_of, resting_row, woken, woken_rows, word_row, word_rows}
use Rattle.loaded_cells.specs.VersionSegment.Rows.{IsSameSegment, IsSegment, VersionedRows}
use Rattle.loaded_cells.proofs.VersionSegment.WordLemmas.{can_wake, wakes_rested}
use Rattle.loaded_cells.specs.CellsModel.Cells.{CellState, last_word, raised_word, unpacked, version_word}
use Rattle.loaded_cells.specs.CellsModel.Words.{HasSmallWeights, Spells}
use Rattle.loaded_cells.proofs.CellsModel.BlockLemmas.{still_spells}
use Rattle.loaded_cells.proofs.CellsModel.WordLemmas.{newest_weights}
use Rattle.std.specs.Prelude.{map}
use Rattle.store_words.specs.Spelling.{CanSpell, IsUntouched}
use Rattle.store_rule.specs.Slots.{RestsAs}

-- a cell that was just unpacked is untouched
pub untouched_now : (c : CellState) → Spells c.block c.segment → IsUntouched (unpacked c)
untouched_now c spells = record {
  quiet = λ moves. by_test (version_word c == last_word) refl moves;
  spells = still_spells c.block c.segment (raised_word (version_word c)) spells;
}
  where
    now : version_word (unpacked c) ≡ raised_word (version_word c)
    now = let wide = spells.wide in
        get_or-set_same c.block 0 (raised_word (version_word c)) 0 (omega (arith, wide))

    by_test : (t : Bool) → (version_word c == last_word) ≡ t → version_word (unpacked c) ≢ last_word → t ≡ false
    by_test false is moves = refl
    by_test true is moves = absurd (moves (now ∙ ap (λ b. cond b last_word (version_word c + 1)) is))

-- what a segment is of which the contents are but for room can be spelled
pub can_spell : (s t : VersionedRows) (low high : Key) (rows : List Row) → IsSameSegment s t → IsSegment t
    → HasSmallWeights t → low ≡ t.low → high ≡ t.high → rows ≡ word_rows t → CanSpell low high rows s
can_spell s t low high rows same sound small low_is high_is rows_are =
    let moved : IsSegment (record t { low = s.low; high = s.high; rows = s.rows }) =
    subst (λ (x : Key × Key × List (Key × StampedVersions)). IsSegment (record t { low = x.0; high = x.1; rows = x.2 }))
    (λ i. (same.low i, same.high i, same.rows i)) sound in
    record {
      low_is = low_is ∙ same.low;
      high_is = high_is ∙ same.high;
      rows_are = rows_are ∙ ap (λ l. map word_row l) same.rows;
      sound = record {
        fences = moved.fences;
        rising = moved.rising;
        within = moved.within;
        something = moved.something;
        small = moved.small;
      };
      small = subst (λ l. HasSmallWeights (record t { rows = l })) same.rows small;
    }

-- ---- segments that wake

-- a segment at rest may wake with what its block spells
pub wakes_with : (s : VersionedRows) (resting : RestingRows) (low high : Key) (rows : List Row)
    → CanSpell low high rows s → RestsAs s resting → CanWake resting low high rows
wakes_with s resting low high rows can rests =
    let wakes = can_wake s can.sound (newest_weights s can.small) in
    record {
      fences = subst (λ (x : Key × Key). is_below x.1 x.0 ≡ false) (λ i. (sym can.low_is i, sym can.high_is i)) wakes.fences;
      sorted = subst AreSorted (sym can.rows_are) wakes.sorted;
      within = subst (λ (x : Key × Key × List Row). AreWithin x.0 x.1 x.2)
          (λ i. (sym can.low_is i, sym can.high_is i, sym can.rows_are i)) wakes.within;
      agree = subst (λ (x : List RestingRow × List Row). AgreeWith x.0 x.1) (λ i. (sym rests i, sym can.rows_are i))
          wakes.agree;
    }

-- and is then the segment that was laid to rest, but for room
pub wakes_same : (s : VersionedRows) (resting : RestingRows) (low high : Key) (rows : List Row) (t : VersionedRows)
    → CanSpell low high rows s → RestsAs s resting → t ≡ woken resting low high rows → IsSameSegment s t
wakes_same s resting low high rows t can rests is = record {
  low = ap (λ (x : VersionedRows). x.low) is ∙ can.low_is;
  high = ap (λ (x : VersionedRows). x.high) is ∙ can.high_is;
  rows = ap (λ (x : VersionedRows). x.rows) is ∙ (λ i. woken_rows (rests i) (can.rows_are i))
      ∙ ap (λ (x : VersionedRows). x.rows) (wakes_rested s (newest_weights s can.small));
}

-- what rests of a segment of which the contents are but for room
pub rests_as : (s t : VersionedRows) (resting : RestingRows) → IsSameSegment s t → resting.rows ≡ (resting_of t).rows
    → RestsAs s resting
rests_as s t resting same is = is ∙ ap (map resting_row) same.rows

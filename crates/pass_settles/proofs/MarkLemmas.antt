-- Words of rows that lose their marks.
use Rattle.std.proofs.Common.{◌≡◌, ℕ, zero, suc, ◌+◌, ◌*◌, ◌<◌, ◌≤◌, List, [], ◌∷◌, length, map, set, refl, sym, ◌∙◌, ap, subst, arith, Option, Some, None, get_or-set_other, get_or-set_same, length-set}
use Rattle.std.specs.Prelude.{Bool, true, false, slice_get, slice_index, unwrap_or, IfSome, IsSomeAnd}
use Rattle.std.specs.List.{AllByRecursion}
use mathlib.Core.Logic.{dite}
use native.Mathlib.Decide.{ℕ_discrete}
use Rattle.graph_model.specs.declared.limits.TheConstants.{MAX_WEIGHT}
use Rattle.graph_model.specs.declared.row.Key.{Key}
use Rattle.graph_model.specs.declared.row.Row.{Row}
use Rattle.graph_model.proofs.PlaceLemmas.{some_eq}
use Rattle.store_model.specs.Stamped.{Stamped, StampedVersions}
use Rattle.pass_sweeps.specs.VersionSegment.Resting.{front_with, newest_value, resting_row, value_in_word, value_word, word_of, word_row, RestingRow}
use Rattle.pass_sweeps.specs.VersionSegment.Rows.{VersionedRows, is_empty}
use Rattle.pass_sweeps.proofs.VersionSegment.WordLemmas.{words_tell}
use Rattle.pass_sweeps.specs.CellsModel.Cells.{CellState, stored}
use Rattle.pass_sweeps.specs.CellsModel.Words.{block_words, flat, spelled}
use Rattle.pass_sweeps.specs.RuleModel.Sight.{HasCell, Sight, with_cell}
use Rattle.pass_sweeps.specs.StoreWords.Spelling.{KeepsOtherCells}
use Rattle.pass_sweeps.proofs.StoreWords.SpellLemmas.{has_now, others_now, others_same, spelled_row}
use Rattle.pass_settles.specs.Marks.{HasValues, IsClearing, IsHalfSettled}
use Rattle.pass_sweeps.specs.VersionSegment.Settling.{each_row, settled_from, settled_versions}

-- ---- rows, of which those from a place on are settled

abbrev words_from : ℕ → List (Key × StampedVersions) → List Row
words_from place rows = map word_row (settled_from place rows)

-- they are as many
words_length : (place : ℕ) (rows : List (Key × StampedVersions)) → length (words_from place rows) ≡ length rows
words_length zero [] = refl
words_length (suc p) [] = refl
words_length zero (r ∷ rs) = ap suc (words_length zero rs)
words_length (suc p) (r ∷ rs) = ap suc (words_length p rs)

-- behind the last one there is none
pub from_end : (rows : List (Key × StampedVersions)) → settled_from (length rows) rows ≡ rows
from_end [] = refl
from_end (r ∷ rs) = ap (λ l. r ∷ l) (from_end rs)

-- a row without undo records has the word that it has once it is settled
same_word : (row : Key × StampedVersions) → row.1.pairs ≡ [] → value_word (settled_versions row.1) ≡ value_word row.1
same_word row none = ap (λ ps. word_of (newest_value row.1) (is_empty ps)) (sym none)

-- so do rows without them
pub same_words : (rows : List (Key × StampedVersions)) (a b : ℕ) → a ≤ b
    → ((p : ℕ) (row : Key × StampedVersions) → slice_get rows p ≡ Some row → a ≤ p → p < b → row.1.pairs ≡ [])
    → words_from a rows ≡ words_from b rows
same_words [] zero zero le none = refl
same_words [] zero (suc b) le none = refl
same_words [] (suc a) zero le none = refl
same_words [] (suc a) (suc b) le none = refl
same_words (r ∷ rs) zero zero le none = refl
same_words (r ∷ rs) zero (suc b) le none = λ i. record { key = r.0; weight = same_word r (none 0 r refl (omega arith) (omega arith)) i }
    ∷ same_words rs zero b (omega arith) (λ p row e ge lt. none (suc p) row e (omega arith) (omega (arith, lt))) i
same_words (r ∷ rs) (suc a) zero le none = absurd (omega (arith, le))
same_words (r ∷ rs) (suc a) (suc b) le none = ap (λ l. word_row r ∷ l)
    (same_words rs a b (omega (arith, le)) (λ p row e ge lt. none (suc p) row e (omega (arith, ge)) (omega (arith, lt))))

-- ---- one row more

-- the words but its last one are as they were, and that is the settled row's
flat_else : (rows : List (Key × StampedVersions)) (p i n : ℕ) → (i ≡ 2 + 3 * p → ⊥)
    → slice_get (flat (words_from p rows)) i ≡ Some n → slice_get (flat (words_from (suc p) rows)) i ≡ Some n
flat_else [] zero i n other e = e
flat_else [] (suc p) i n other e = e
flat_else (r ∷ rs) zero zero n other e = e
flat_else (r ∷ rs) zero (suc zero) n other e = e
flat_else (r ∷ rs) zero (suc (suc zero)) n other e = absurd (other refl)
flat_else (r ∷ rs) zero (suc (suc (suc i))) n other e = e
flat_else (r ∷ rs) (suc p) zero n other e = e
flat_else (r ∷ rs) (suc p) (suc zero) n other e = e
flat_else (r ∷ rs) (suc p) (suc (suc zero)) n other e = e
flat_else (r ∷ rs) (suc p) (suc (suc (suc i))) n other e = flat_else rs p i n (λ same. other (omega (arith, same))) e

flat_here : (rows : List (Key × StampedVersions)) (p i n : ℕ) (row : Key × StampedVersions) → i ≡ 2 + 3 * p
    → slice_get rows p ≡ Some row → slice_get (flat (words_from p rows)) i ≡ Some n → n ≡ value_word (settled_versions row.1)
flat_here [] p i n row is at e = cc
flat_here (r ∷ rs) zero i n row is at e =
    let same = some_eq r row at in
    let here : slice_get (flat (words_from zero (r ∷ rs))) 2 ≡ Some n = ap (slice_get (flat (words_from zero (r ∷ rs)))) (sym is) ∙ e in
    sym (some_eq (value_word (settled_versions r.1)) n here) ∙ ap (λ (x : Key × StampedVersions). value_word (settled_versions x.1)) same
flat_here (r ∷ rs) (suc p) i n row is at e =
    let j : ℕ = 2 + 3 * p in
    let z : i ≡ suc (suc (suc j)) = omega (arith, is) in
    flat_here rs p j n row refl at (ap (slice_get (flat (words_from (suc p) (r ∷ rs)))) (sym z) ∙ e)

-- so it is of all words
spelled_else : (low high : Key) (rows : List (Key × StampedVersions)) (p i n : ℕ) → (i ≡ 7 + 3 * p → ⊥)
    → slice_get (spelled low high (words_from p rows)) i ≡ Some n
    → slice_get (spelled low high (words_from (suc p) rows)) i ≡ Some n
spelled_else low high rows p zero n other e = ap (λ (m : ℕ). Some m) (words_length (suc p) rows ∙ sym (words_length p rows)) ∙ e
spelled_else low high rows p (suc zero) n other e = e
spelled_else low high rows p (suc (suc zero)) n other e = e
spelled_else low high rows p (suc (suc (suc zero))) n other e = e
spelled_else low high rows p (suc (suc (suc (suc zero)))) n other e = e
spelled_else low high rows p (suc (suc (suc (suc (suc i))))) n other e = flat_else rows p i n (λ same. other (omega (arith, same))) e

spelled_here : (low high : Key) (rows : List (Key × StampedVersions)) (p i n : ℕ) (row : Key × StampedVersions) → i ≡ 7 + 3 * p
    → slice_get rows p ≡ Some row → slice_get (spelled low high (words_from p rows)) i ≡ Some n
    → n ≡ value_word (settled_versions row.1)
spelled_here low high rows p i n row is at e =
    let j : ℕ = 2 + 3 * p in
    let z : i ≡ suc (suc (suc (suc (suc j)))) = omega (arith, is) in
    flat_here rows p j n row refl at (ap (slice_get (spelled low high (words_from p rows))) (sym z) ∙ e)

-- ---- the block

-- no word is stored, since the one that is wanted stands there
pub half_stands : (s : VersionedRows) (p : ℕ) (row : Key × StampedVersions) (block : List ℕ) → slice_get s.rows p ≡ Some row
    → IsHalfSettled s (suc p) block → slice_index block (8 + 3 * p) ≡ value_word (settled_versions row.1)
    → IsHalfSettled s p block
half_stands s p row block at half stands = record {
  wide = half.wide;
  words = λ i n e. dite (ℕ_discrete i (7 + 3 * p))
      (λ same. ap (slice_index block) (omega (arith, same)) ∙ stands ∙ sym (spelled_here s.low s.high s.rows p i n row same at e))
      (λ other. half.words i n (spelled_else s.low s.high s.rows p i n other e));
}

-- one is stored
pub half_stored : (s : VersionedRows) (p x : ℕ) (row : Key × StampedVersions) (block : List ℕ) → p < 32 → slice_get s.rows p ≡ Some row
    → IsHalfSettled s (suc p) block → x ≡ value_word (settled_versions row.1)
    → IsHalfSettled s p (set block (8 + 3 * p) x)
half_stored s p x row block inside at half is = record {
  wide = length-set block (8 + 3 * p) x ∙ half.wide;
  words = λ i n e. dite (ℕ_discrete i (7 + 3 * p))
      (λ same. ap (slice_index (set block (8 + 3 * p) x)) (omega (arith, same))
      ∙ get_or-set_same block (8 + 3 * p) x 0 (let wide = half.wide in omega (arith, inside, wide))
      ∙ is ∙ sym (spelled_here s.low s.high s.rows p i n row same at e))
      (λ other. get_or-set_other block (8 + 3 * p) (i + 1) x 0 (λ e. other (omega (arith, e)))
      ∙ half.words i n (spelled_else s.low s.high s.rows p i n other e));
}

-- the number of rows is stored once more
pub half_counted : (s : VersionedRows) (p x : ℕ) (block : List ℕ) → x ≡ length s.rows → IsHalfSettled s p block
    → IsHalfSettled s p (set block 1 x)
half_counted s p x block is half = record {
  wide = length-set block 1 x ∙ half.wide;
  words = λ i n e. dite (ℕ_discrete i 0)
      (λ same. ap (slice_index (set block 1 x)) (omega (arith, same))
      ∙ get_or-set_same block 1 x 0 (let wide = half.wide in omega (arith, wide))
      ∙ is ∙ sym (words_length p s.rows)
      ∙ some_eq (length (words_from p s.rows)) n (ap (slice_get (spelled s.low s.high (words_from p s.rows))) (sym same) ∙ e))
      (λ other. get_or-set_other block 1 (i + 1) x 0 (λ e. other (omega (arith, e))) ∙ half.words i n e);
}

-- ---- values

-- the word of a row with a value tells the word that it has once it is settled
plain_word : (row : Key × StampedVersions) → IsSomeAnd (newest_value row.1) (λ weight. weight ≤ MAX_WEIGHT)
    → unwrap_or (value_in_word (value_word row.1)) (value_word row.1) ≡ value_word (settled_versions row.1)
plain_word row small = go (newest_value row.1) refl small
  where
    go : (v : Option ℕ) → newest_value row.1 ≡ v → IsSomeAnd v (λ weight. weight ≤ MAX_WEIGHT)
        → unwrap_or (value_in_word (value_word row.1)) (value_word row.1) ≡ value_word (settled_versions row.1)
    go None e some = absurd some
    go (Some w) e some =
        let told : value_in_word (value_word row.1) ≡ Some w =
        (words_tell row.1 (subst (λ o. IfSome o (λ weight. weight ≤ MAX_WEIGHT)) (sym e) some)).newest ∙ e in
        ap (λ o. unwrap_or o (value_word row.1)) told ∙ sym (ap (λ v. word_of v true) e)

-- the row at a place
row_there : (rows : List (Key × StampedVersions)) (p : ℕ) → p < length rows → (row : Key × StampedVersions) × (slice_get rows p ≡ Some row)
row_there [] p lt = absurd (omega (arith, lt))
row_there (r ∷ rs) zero lt = (r, refl)
row_there (r ∷ rs) (suc p) lt = let rest = row_there rs p (omega (arith, lt)) in (rest.0, rest.1)

all_get : {X : Type 0} (P : X → Type 0) (xs : List X) (i : ℕ) (x : X) → AllByRecursion P xs → slice_get xs i ≡ Some x → P x
all_get P [] i x h e = cc
all_get P (y ∷ ys) zero x h e = subst P (some_eq y x e) h.0
all_get P (y ∷ ys) (suc i) x h e = all_get P ys i x h.1 e

-- the word that the row has as long as it isn't settled
word_at : (s : VersionedRows) (p : ℕ) (row : Key × StampedVersions) (block : List ℕ) → slice_get s.rows p ≡ Some row
    → IsHalfSettled s (suc p) block → slice_index block (8 + 3 * p) ≡ value_word row.1
word_at s p row block at half =
    let there = spelled_row s.low s.high (words_from (suc p) s.rows) p (word_row row) (still s.rows p at) in
    ap (slice_index block) (omega arith) ∙ half.words (5 + 3 * p + 2) (value_word row.1) there.2
  where
    still : (rows : List (Key × StampedVersions)) (q : ℕ) → slice_get rows q ≡ Some row → slice_get (words_from (suc q) rows) q ≡ Some (word_row row)
    still [] q e = cc
    still (r ∷ rs) zero e = ap (λ o. Some (word_row o)) (some_eq r row e)
    still (r ∷ rs) (suc q) e = still rs q e

-- ---- the view

others_on : (k : ℕ) (u v w : Sight) → KeepsOtherCells k u v → KeepsOtherCells k v w → KeepsOtherCells k u w
others_on k u v w first then = record {
  passes = then.passes ∙ first.passes;
  pins = then.pins ∙ first.pins;
  cells = λ l other. then.cells l other ∙ first.cells l other;
  indexes = then.indexes ∙ first.indexes;
  journals = then.journals ∙ first.journals;
  told = then.told ∙ first.told;
  readers = then.readers ∙ first.readers;
  reads = then.reads ∙ first.reads;
}

-- the number of rows is stored
pub counts_rows : (k : ℕ) (v w : Sight) (c : CellState) (s : VersionedRows) (place n : ℕ) → c.unpacked ≡ true → n ≡ length s.rows
    → IsHalfSettled s place c.block → w ≡ with_cell v k (stored c 1 n) → IsClearing k s place v c w
counts_rows k v w c s place n loose is half w_is = record {
  cell = stored c 1 n;
  has = has_now v w k (stored c 1 n) w_is;
  segment = refl;
  unpacked = loose;
  changed = refl;
  half = half_counted s place n c.block is half;
  others = others_now v w k (stored c 1 n) w_is;
}

-- rows without undo records have no marks
pub clears_more : (k : ℕ) (s : VersionedRows) (a b : ℕ) (u : Sight) (c : CellState) (v : Sight) → a ≤ b
    → ((p : ℕ) (row : Key × StampedVersions) → slice_get s.rows p ≡ Some row → a ≤ p → p < b → row.1.pairs ≡ [])
    → IsClearing k s b u c v → IsClearing k s a u c v
clears_more k s a b u c v le none is = record {
  cell = is.cell;
  has = is.has;
  segment = is.segment;
  unpacked = is.unpacked;
  changed = is.changed;
  half = record {
    wide = is.half.wide;
    words = λ i n e. is.half.words i n (ap (λ l. slice_get (spelled s.low s.high l) i) (sym (same_words s.rows a b le none)) ∙ e);
  };
  others = is.others;
}

-- the word at the place has no mark
pub clears_none : (k : ℕ) (s : VersionedRows) (p x : ℕ) (u : Sight) (c : CellState) (v w : Sight) → p < length s.rows → HasValues s
    → (is : IsClearing k s (p + 1) u c v) → x ≡ slice_index is.cell.block (8 + 3 * p)
    → unwrap_or (value_in_word x) x ≡ x → w ≡ v → IsClearing k s p u c w
clears_none k s p x u c v w inside values is found stays same = subst (IsClearing k s p u c) (sym same) (record {
  cell = is.cell;
  has = is.has;
  segment = is.segment;
  unpacked = is.unpacked;
  changed = is.changed;
  half =
      let row = row_there s.rows p inside in
      let small = all_get (λ r. IsSomeAnd (newest_value r.1) (λ weight. weight ≤ MAX_WEIGHT)) s.rows p row.0 values row.1 in
      let half : IsHalfSettled s (suc p) is.cell.block = subst (λ m. IsHalfSettled s m is.cell.block) (omega arith) is.half in
      let word = found ∙ word_at s p row.0 is.cell.block row.1 half in
      half_stands s p row.0 is.cell.block row.1 half
      (sym found ∙ sym stays ∙ ap (λ y. unwrap_or (value_in_word y) y) word ∙ plain_word row.0 small);
  others = is.others;
})

-- it had one
pub clears_one : (k : ℕ) (s : VersionedRows) (p x y : ℕ) (u : Sight) (c : CellState) (v w : Sight) → p < 32 → p < length s.rows → HasValues s
    → (is : IsClearing k s (p + 1) u c v) → x ≡ slice_index is.cell.block (8 + 3 * p)
    → y ≡ unwrap_or (value_in_word x) x → w ≡ with_cell v k (stored is.cell (8 + 3 * p) y) → IsClearing k s p u c w
clears_one k s p x y u c v w few inside values is found plain w_is = record {
  cell = stored is.cell (8 + 3 * p) y;
  has = has_now v w k (stored is.cell (8 + 3 * p) y) w_is;
  segment = is.segment;
  unpacked = is.unpacked;
  changed = refl;
  half =
      let row = row_there s.rows p inside in
      let small = all_get (λ r. IsSomeAnd (newest_value r.1) (λ weight. weight ≤ MAX_WEIGHT)) s.rows p row.0 values row.1 in
      let half : IsHalfSettled s (suc p) is.cell.block = subst (λ m. IsHalfSettled s m is.cell.block) (omega arith) is.half in
      let word = found ∙ word_at s p row.0 is.cell.block row.1 half in
      half_stored s p y row.0 is.cell.block few row.1 half
      (plain ∙ ap (λ z. unwrap_or (value_in_word z) z) word ∙ plain_word row.0 small);
  others = others_on k u v w is.others (others_now v w k (stored is.cell (8 + 3 * p) y) w_is);
}

-- a row at rest without pairs had none
pub no_pairs : (s : VersionedRows) (hs : List RestingRow) (p : ℕ) (row : Key × StampedVersions) → hs ≡ map resting_row s.rows
    → slice_get s.rows p ≡ Some row → ((h : RestingRow) → slice_get hs p ≡ Some h → h.versions.pairs ≡ []) → row.1.pairs ≡ []
no_pairs s hs p row is at none =
    empty row.1.pairs (none (resting_row row) (ap (λ l. slice_get l p) is ∙ mapped s.rows p at))
  where
    mapped : (rows : List (Key × StampedVersions)) (q : ℕ) → slice_get rows q ≡ Some row → slice_get (map resting_row rows) q ≡ Some (resting_row row)
    mapped [] q e = cc
    mapped (r ∷ rs) zero e = ap (λ o. Some (resting_row o)) (some_eq r row e)
    mapped (r ∷ rs) (suc q) e = mapped rs q e

    empty : (ps : List Stamped) → front_with None ps ≡ [] → ps ≡ []
    empty [] e = refl
    empty (q ∷ ps) e = cc

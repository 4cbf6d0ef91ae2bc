-- What the words of a block tell of the contents that it spells.
use Rattle.std.proofs.Common.{◌≡◌, ◌⊎◌, inl, inr, ℕ, zero, suc, ◌+◌, ◌*◌, ◌-◌, ◌<◌, ◌≤◌, List, [], ◌∷◌, map, length, take, drop, refl, sym, ◌∙◌, ap, subst, cond, arith, Option, Some, None, get_or}
use Rattle.std.specs.Prelude.{Bool, true, false, ◌==◌, nat_le, slice_get, slice_index, IfSome}
use Rattle.std.specs.List.{AllByRecursion}
use Rattle.std.specs.FinMap.Entries.{find}
use Rattle.std.proofs.lemmas.Bool.Decides.{nat_tests}
use Rattle.graph_model.specs.declared.row.Key.{Key}
use Rattle.graph_model.specs.declared.row.Row.{Row}
use Rattle.graph_model.specs.declared.limits.TheConstants.{MAX_WEIGHT}
use Rattle.graph_model.specs.Rows.{key_cmp, is_below}
use Rattle.graph_model.proofs.PlaceLemmas.{some_eq}
use Rattle.store_model.specs.Stamped.{Stamped, StampedVersions}
use Rattle.leaf_store.specs.VersionSegment.Keyed.{RisesBy, IsPlaceBy, IsGapBy, entries_by}
use Rattle.leaf_store.specs.VersionSegment.Resting as may_rest
use Rattle.leaf_store.specs.VersionSegment.Rows.{VersionedRows, IsSegment, versions_at, or_nothing, is_empty}
use Rattle.leaf_store.specs.VersionSegment.Resting.{newest_in, newest_value, value_word, value_in_word, is_marked, word_of, mark, no_value, word_row, word_rows}
use Rattle.cells_model.specs.Words.{HasSmallValues, HasSmallWeights, IsSmall, flat}
use Rattle.leaf_store.proofs.VersionSegment.KeyedLemmas.{find_there, find_gap, gap_of_place}
use Rattle.cells_model.specs.BlockLaws.{HeadIsTold, RowIsTold, TellsVersions, ValueIsTold, NoRowIsTold, row_key}

-- the words of the row at a place stand at three times the place
pub flat_at : (rows : List Row) (p m : ℕ) (row : Row) → m ≡ 3 * p → slice_get rows p ≡ Some row
    → (slice_get (flat rows) m ≡ Some row.key.src) × (slice_get (flat rows) (suc m) ≡ Some row.key.second)
    × (slice_get (flat rows) (suc (suc m)) ≡ Some row.weight)
flat_at [] p m row is e = cc
flat_at (x ∷ xs) zero m row is e =
    let z : m ≡ 0 = omega arith in
    let same = some_eq x row e in (
      ap (slice_get (flat (x ∷ xs))) z ∙ ap (λ (r : Row). Some r.key.src) same,
      ap (λ k. slice_get (flat (x ∷ xs)) (suc k)) z ∙ ap (λ (r : Row). Some r.key.second) same,
      ap (λ k. slice_get (flat (x ∷ xs)) (suc (suc k))) z ∙ ap (λ (r : Row). Some r.weight) same,
    )
flat_at (x ∷ xs) (suc p) m row is e =
    let h = flat_at xs p (3 * p) row refl e in
    let z : m ≡ suc (suc (suc (3 * p))) = omega arith in (
      ap (slice_get (flat (x ∷ xs))) z ∙ h.0,
      ap (λ k. slice_get (flat (x ∷ xs)) (suc k)) z
          ∙ h.1,
      ap (λ k. slice_get (flat (x ∷ xs)) (suc (suc k))) z ∙ h.2,
    )

pub row_is_told : RowIsTold
row_is_told block s is p row e =
    let h = flat_at (word_rows s) p (3 * p) row refl e in
    let m : ℕ = 3 * p in
    let a : 6 + m ≡ suc (suc (suc (suc (suc m)))) + 1 = omega arith in
    let b : 7 + m ≡ suc (suc (suc (suc (suc (suc m))))) + 1 = omega arith in
    let d : 8 + m ≡ suc (suc (suc (suc (suc (suc (suc m)))))) + 1 = omega arith in
    record {
      src = ap (slice_index block) a ∙ is.words (suc (suc (suc (suc (suc m))))) row.key.src h.0;
      second = ap (slice_index block) b ∙ is.words (suc (suc (suc (suc (suc (suc m)))))) row.key.second h.1;
      value = ap (slice_index block) d ∙ is.words (suc (suc (suc (suc (suc (suc (suc m))))))) row.weight h.2;
    }

-- ---- the rows of a segment with their words

-- as many as rows
length-words : (rows : List (Key × StampedVersions)) → length (map word_row rows) ≡ length rows
length-words [] = refl
length-words (r ∷ rs) = ap suc (length-words rs)

-- there are as many of them as rows, so 32 at most
pub few_words : (s : VersionedRows) → IsSegment s → length (word_rows s) ≤ 32
few_words s is = let e = length-words s.rows in let h : length s.rows ≤ 32 = is.small in omega arith

pub head_is_told : HeadIsTold
head_is_told block s is = record {
  count = is.words 0 (length (word_rows s)) refl ∙ length-words s.rows;
  low_src = is.words 1 s.low.src refl;
  low_second = is.words 2 s.low.second refl;
  high_src = is.words 3 s.high.src refl;
  high_second = is.words 4 s.high.second refl;
}

-- the keys rise as they do in the segment
pub words_rise : (s : VersionedRows) → IsSegment s → RisesBy row_key (word_rows s)
words_rise s is = all_rise s.rows is.rising
  where
    all_above : (k : Key) (rows : List (Key × StampedVersions))
        → AllByRecursion (λ y. is_below k y.0 ≡ true) rows
        → AllByRecursion (λ y. is_below k (row_key y) ≡ true) (map word_row rows)
    all_above k [] h = tt
    all_above k (r ∷ rs) h = (h.0, all_above k rs h.1)

    all_rise : (rows : List (Key × StampedVersions)) → RisesBy (λ row. row.0) rows
        → RisesBy row_key (map word_row rows)
    all_rise [] h = tt
    all_rise (r ∷ rs) h = (all_above r.0 rs h.0, all_rise rs h.1)

-- rows are the entries of a map by keys
same_entries : (rows : List (Key × StampedVersions)) → entries_by (λ row. row.0) (λ row. row.1) rows ≡ rows
same_entries [] = refl
same_entries (r ∷ rs) = λ i. r ∷ same_entries rs i

-- the row of which words stand at a place
word_there : (rows : List (Key × StampedVersions)) (p : ℕ) (w : Row) → slice_get (map word_row rows) p ≡ Some w
    → (row : Key × StampedVersions) × (slice_get rows p ≡ Some row) × (word_row row ≡ w)
word_there [] p w e = cc
word_there (r ∷ rs) zero w e = (r, refl, some_eq (word_row r) w e)
word_there (r ∷ rs) (suc p) w e = word_there rs p w e

-- a place among the rows by their words is one among the rows
place_rows : (k : Key) (rows : List (Key × StampedVersions)) (p : ℕ) → IsPlaceBy row_key (map word_row rows) k p
    → IsPlaceBy (λ row. row.0) rows k p
place_rows k rows p is = record {
  within = (let e = length-words rows in let h = is.within in omega arith);
  before = front rows p is.before;
  behind = back rows p is.behind;
}
  where
    all_rows : (b : Bool) (rs : List (Key × StampedVersions))
        → AllByRecursion (λ x. is_below (row_key x) k ≡ b) (map word_row rs)
        → AllByRecursion (λ x. is_below x.0 k ≡ b) rs
    all_rows b [] h = tt
    all_rows b (r ∷ rs) h = (h.0, all_rows b rs h.1)

    front : (rs : List (Key × StampedVersions)) (n : ℕ)
        → AllByRecursion (λ x. is_below (row_key x) k ≡ true) (take n (map word_row rs))
        → AllByRecursion (λ x. is_below x.0 k ≡ true) (take n rs)
    front rs zero h = tt
    front [] (suc n) h = tt
    front (r ∷ rs) (suc n) h = (h.0, front rs n h.1)

    back : (rs : List (Key × StampedVersions)) (n : ℕ)
        → AllByRecursion (λ x. is_below (row_key x) k ≡ false) (drop n (map word_row rs))
        → AllByRecursion (λ x. is_below x.0 k ≡ false) (drop n rs)
    back rs zero h = all_rows false rs h
    back [] (suc n) h = tt
    back (r ∷ rs) (suc n) h = back rs n h

-- what holds of all holds of each
all_get : {X : Type 0} (P : X → Type 0) (xs : List X) (i : ℕ) (x : X) → AllByRecursion P xs
    → slice_get xs i ≡ Some x → P x
all_get P [] i x h e = cc
all_get P (y ∷ ys) zero x h e = subst P (some_eq y x e) h.0
all_get P (y ∷ ys) (suc i) x h e = all_get P ys i x h.1 e

-- the newest of values that may be stored may be
pub newest_small : (vs : StampedVersions) → HasSmallValues vs → IsSmall (newest_value vs)
newest_small vs small = go vs.pairs small.0
  where
    go : (ps : List Stamped) → AllByRecursion (λ p. IsSmall p.value) ps
        → IsSmall (newest_in ps vs.oldest)
    go [] all = small.1
    go (p ∷ ps) all = all.0

-- so a segment may be laid to rest
pub newest_weights : (s : VersionedRows) → HasSmallWeights s → may_rest.HasSmallWeights s
newest_weights s small = go s.rows small
  where
    go : (rows : List (Key × StampedVersions)) → AllByRecursion (λ row. HasSmallValues row.1) rows
        → AllByRecursion (λ row. IsSmall (newest_value row.1)) rows
    go [] all = tt
    go (row ∷ rows) all = (newest_small row.1 all.0, go rows all.1)

-- what the word of a row tells
word_tells : (v : Option ℕ) (settled : Bool) → IfSome v (λ w. w ≤ MAX_WEIGHT)
    → (is_marked (word_of v settled) ≡ false → (settled ≡ true) × (value_in_word (word_of v settled) ≡ v))
    × (is_marked (word_of v settled) ≡ true → (settled ≡ false) ⊎ (v ≡ None))
word_tells None settled small = ((λ e. absurd (apart e)), λ e. inr refl)
  where
    apart : true ≡ false → ⊥
    apart e = cc
word_tells (Some w) true small =
    let a : (w == no_value) ≡ false = grind (arith, nat_tests) in
    let b : nat_le mark w ≡ false = grind (arith, nat_tests) in (
      (λ e. (
        refl,
        ap (λ t. cond t None (cond (nat_le mark w) (Some (w - mark)) (Some w))) a
            ∙ ap (λ t. cond t (Some (w - mark)) (Some w)) b,
      )),
      (λ e. absurd (apart (sym e ∙ b))),
    )
  where
    apart : true ≡ false → ⊥
    apart e = cc
word_tells (Some w) false small =
    let b : nat_le mark (mark + w) ≡ true = grind (arith, nat_tests) in
    ((λ e. absurd (apart (sym b ∙ e))), λ e. inl refl)
  where
    apart : true ≡ false → ⊥
    apart e = cc

pub value_is_told : ValueIsTold
value_is_told block s is key p place w e same =
    let t = word_there s.rows p w e in
    let row = t.0 in
    let key_is : row.0 ≡ key = ap (λ (r : Row). r.key) t.2 ∙ same in
    let found : versions_at s key ≡ row.1
    = ap or_nothing (ap (λ k. find key_cmp k s.rows) (sym key_is)
    ∙ ap (find key_cmp row.0) (sym (same_entries s.rows))
    ∙ find_there (λ (r : Key × StampedVersions). r.0)
    (λ (r : Key × StampedVersions). r.1) s.rows p row is.sound.rising t.1) in
    let word : value_word row.1 ≡ w.weight = ap (λ (r : Row). r.weight) t.2 in
    let small = newest_small row.1
    (all_get (λ (r : Key × StampedVersions). HasSmallValues r.1) s.rows p row is.small t.1) in
    let tells = word_tells (newest_value row.1) (is_empty row.1.pairs) small in
    let here : TellsVersions s key (value_word row.1) = record {
      settled = λ f. let g = tells.0 f in (
        ap (λ vs. is_empty vs.pairs) found ∙ g.0,
        g.1
            ∙ ap newest_value (sym found),
      );
      chained = λ f. elim (tells.1 f) as (λ _. (is_empty (versions_at s key).pairs ≡ false)
          ⊎ (newest_value (versions_at s key) ≡ None)) [
            | inl g ↦ inl (ap (λ vs. is_empty vs.pairs) found ∙ g)
            | inr g ↦ inr (ap newest_value found ∙ g)
          ];
    } in
    subst (TellsVersions s key) word here

pub no_row_is_told : NoRowIsTold
no_row_is_told block s is key p place other =
    let rising = is.sound.rising in
    let gap : IsGapBy (λ (r : Key × StampedVersions). r.0) s.rows key p
    = gap_of_place (λ (r : Key × StampedVersions). r.0) s.rows key p rising (place_rows key s.rows p place)
    (λ d lt same.
    let t = there s.rows p d lt in
    other (word_row (get_or s.rows p d)) (word_get s.rows p (get_or s.rows p d) t) same) in
    ap or_nothing (ap (find key_cmp key) (sym (same_entries s.rows))
    ∙ find_gap (λ (r : Key × StampedVersions). r.0) (λ (r : Key × StampedVersions). r.1) key s.rows p gap)
  where
    there : (rows : List (Key × StampedVersions)) (i : ℕ) (d : Key × StampedVersions) → i < length rows
        → slice_get rows i ≡ Some (get_or rows i d)
    there [] i d lt = absurd (omega arith)
    there (r ∷ rs) zero d lt = refl
    there (r ∷ rs) (suc i) d lt = there rs i d (omega arith)

    word_get : (rows : List (Key × StampedVersions)) (i : ℕ) (row : Key × StampedVersions)
        → slice_get rows i ≡ Some row
        → slice_get (map word_row rows) i ≡ Some (word_row row)
    word_get [] i row e = cc
    word_get (r ∷ rs) zero row e = ap (λ x. Some (word_row x)) (some_eq r row e)
    word_get (r ∷ rs) (suc i) row e = word_get rs i row e

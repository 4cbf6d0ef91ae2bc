-- Leaves by their numbers are the cells that were laid.
use Rattle.std.proofs.Common.{◌≡◌, ◌⊎◌, inl, inr, ℕ, zero, suc, ◌+◌, ◌*◌, ◌<◌, List, [], ◌∷◌, ◌++◌, Option, length, map, refl, sym, ◌∙◌, ap, subst, arith, append_assoc, length-append}
use Rattle.std.specs.Prelude.{Bool, true, false, ◌==◌, ◌||◌, Some, drop, slice_get}
use Rattle.std.specs.List.{AllByRecursion, list_any}
use Rattle.std.specs.declared.boxed.Box.{Box}
use Rattle.std.specs.declared.alloc.Global.{Global}
use Rattle.seat_views.proofs.NumberLemmas.{eq_of, some_is}
use Rattle.graph_model.specs.declared.row.Key.{Key}
use Rattle.store_model.specs.Stamped.{StampedVersions}
use Rattle.rule_model.specs.VersionSegment.Resting.{RestingRows}
use Rattle.rule_model.specs.VersionSegment.Rows.{IsSegment, VersionedRows}
use Rattle.rule_model.specs.LeafArrayDeclared.leaf.Leaf.{Leaf}
use Rattle.rule_model.specs.LeafArray.Segments.{rows_of}
use Rattle.rule_model.proofs.LeafArray.PairLemmas.{rows-append}
use Rattle.leaf_index.specs.Index.{Entry, Index, end_of}
use Rattle.rule_model.specs.LeafStore.Table.{AreTied, IsKept, IsTied, part_of, segments_at, segments_or_none}
use Rattle.rule_model.proofs.LeafStore.ListLemmas.{all_back, all_front}
use Rattle.rule_model.proofs.LeafStore.StoreLemmas.{cells_in}
use Rattle.rule_model.specs.CellsModel.Indexed.{AreNumbered, IsIdle, cells_from, is_live, leaf_cells}
use Rattle.rule_model.specs.CellsModel.InPlace.{segment_of}
use Rattle.loaded_cells.specs.Laid.{HaveCells, IsOnlyLive}
use Rattle.loaded_cells.specs.Numbered.{AreRestOf, cell_of, rest_rows}
use Rattle.loaded_cells.specs.Ranges.{cells_in_memory, eight_or_idle, idle_segment, leaf_segments, loaded_segments}
use Rattle.loaded_cells.specs.declared.fill.LoadedRange.{LoadedRange}
use Rattle.loaded_cells.proofs.RangeLemmas.{length_from}

abbrev pub Table : Type 0
Table = List (Option (Box Leaf Global))

-- what stands in the cells of all leaves in memory, one leaf after the other
abbrev pub numbered_segments : Table → List VersionedRows
numbered_segments [] = []
numbered_segments (m ∷ ms) = cells_in_memory m ++ numbered_segments ms

-- the contents of the cells of these segments
abbrev pub contents_of : List VersionedRows → ℕ → VersionedRows
contents_of ss = segment_of (cell_of ss)

-- ---- cells behind others

behind : (front ss : List VersionedRows) (j n : ℕ) → n ≡ length front + j → contents_of (front ++ ss) n ≡ contents_of ss j
behind [] ss j n is = let e : n ≡ j = omega (arith, is) in ap (contents_of ss) e
behind (x ∷ front) ss j zero is = absurd (omega (arith, is))
behind (x ∷ front) ss j (suc n) is = behind front ss j n (omega (arith, is))

-- a run of them
run : (front ss back : List VersionedRows) (n m : ℕ) → n ≡ length front → m ≡ length ss
    → cells_from (contents_of (front ++ (ss ++ back))) n m ≡ ss
run front [] back n zero at count = refl
run front [] back n (suc m) at count = absurd (omega (arith, count))
run front (s ∷ ss) back n zero at count = absurd (omega (arith, count))
run front (s ∷ ss) back n (suc m) at count =
    let here : contents_of (front ++ (s ∷ (ss ++ back))) n ≡ s = behind front (s ∷ (ss ++ back)) 0 n (omega (arith, at)) in
    let one = length-append front (s ∷ []) in
    let rest : cells_from (contents_of ((front ++ s ∷ []) ++ (ss ++ back))) (suc n) m ≡ ss =
    run (front ++ s ∷ []) ss back (suc n) m (omega (arith, at, one)) (omega (arith, count)) in
    let same : (front ++ s ∷ []) ++ (ss ++ back) ≡ front ++ (s ∷ (ss ++ back)) = append_assoc front (s ∷ []) (ss ++ back) in
    λ i. here i ∷ (ap (λ l. cells_from (contents_of l) (suc n) m) (sym same) ∙ rest) i

-- ---- leaves

-- a leaf has eight segments, or none
abbrev pub AreEights : Table → Type 0
AreEights table = (l : ℕ) → l < length table → (segments_at table l ≡ []) ⊎ (length (segments_at table l) ≡ 8)

eight_each : (ss : List VersionedRows) → (ss ≡ []) ⊎ (length ss ≡ 8) → length (eight_or_idle ss) ≡ 8
eight_each [] has = refl
eight_each (s ∷ ss) (inl none) = cc
eight_each (s ∷ ss) (inr eight) = eight

from_leaf : (front : List VersionedRows) (table : Table) (from l : ℕ) → length front ≡ 8 * from → AreEights table
    → l < length table
    → leaf_cells (contents_of (front ++ numbered_segments table)) (from + l) ≡ eight_or_idle (segments_at table l)
from_leaf front [] from l at eights less = absurd (omega (arith, less))
from_leaf front (m ∷ ms) from zero at eights less =
    let ss = eight_or_idle (segments_or_none (Some m)) in
    let count : 8 ≡ length ss = sym (eight_each (segments_or_none (Some m)) (eights 0 less)) in
    run front ss (numbered_segments ms) (8 * (from + 0)) 8 (omega (arith, at)) count
from_leaf front (m ∷ ms) from (suc l) at eights less =
    let ss = eight_or_idle (segments_or_none (Some m)) in
    let count : length ss ≡ 8 = eight_each (segments_or_none (Some m)) (eights 0 (omega arith)) in
    let both = length-append front ss in
    let rest : leaf_cells (contents_of ((front ++ ss) ++ numbered_segments ms)) (suc from + l) ≡ eight_or_idle (segments_at ms l) =
    from_leaf (front ++ ss) ms (suc from) l (omega (arith, at, count, both)) (λ n lt. eights (suc n) (omega (arith, lt)))
    (omega (arith, less)) in
    let e : from + suc l ≡ suc from + l = omega arith in
    ap (leaf_cells (contents_of (front ++ (ss ++ numbered_segments ms)))) e
    ∙ ap (λ x. leaf_cells (contents_of x) (suc from + l)) (sym (append_assoc front ss (numbered_segments ms))) ∙ rest

pub numbered_leaf : (table : Table) (l : ℕ) → AreEights table → l < length table
    → leaf_cells (contents_of (numbered_segments table)) l ≡ eight_or_idle (segments_at table l)
numbered_leaf table l eights less =
    let e : l ≡ 0 + l = omega arith in
    ap (leaf_cells (contents_of (numbered_segments table))) e ∙ from_leaf [] table 0 l refl eights less

pub count_segments : (table : Table) → AreEights table → length (numbered_segments table) ≡ 8 * length table
count_segments [] eights = refl
count_segments (m ∷ ms) eights =
    let ss = eight_or_idle (segments_or_none (Some m)) in
    let count : length ss ≡ 8 = eight_each (segments_or_none (Some m)) (eights 0 (omega arith)) in
    let both = length-append ss (numbered_segments ms) in
    let rest = count_segments ms (λ n lt. eights (suc n) (omega (arith, lt))) in
    omega (arith, count, both, rest)

-- ---- live leaves

-- a live leaf is tied to its entry
record Tied (table : Table) (l : ℕ) : Type 0 where
  entry : Entry
  high : Key
  tied : IsTied (segments_at table l) entry high

live_tied : (table : Table) (es : List Entry) (l : ℕ) → AreTied table es → list_any (λ e. e.leaf == l) es ≡ true
    → Tied table l
live_tied table [] l tied live = cc
live_tied table (e ∷ es) l tied live = by_test (e.leaf == l) refl live (live_tied table es l tied.1)
  where
    by_test : (t : Bool) → (e.leaf == l) ≡ t → (t || list_any (λ x. x.leaf == l) es) ≡ true
        → (list_any (λ x. x.leaf == l) es ≡ true → Tied table l) → Tied table l
    by_test true is any rest = record {
      entry = e;
      high = end_of es;
      tied = subst (λ n. IsTied (segments_at table n) e (end_of es)) (eq_of e.leaf l is) tied.0;
    }
    by_test false is any rest = rest any

-- what holds of all rows of live leaves holds of those of one
live_rows : (P : Key × StampedVersions → Type 0) (table : Table) (es : List Entry) (l : ℕ)
    → AllByRecursion P (rows_of (cells_in (map (part_of table) es))) → list_any (λ e. e.leaf == l) es ≡ true
    → AllByRecursion P (rows_of (segments_at table l))
live_rows P table [] l all live = cc
live_rows P table (e ∷ es) l all live =
    let both : AllByRecursion P (rows_of (segments_at table e.leaf) ++ rows_of (cells_in (map (part_of table) es))) =
    subst (AllByRecursion P) (rows-append (segments_at table e.leaf) (cells_in (map (part_of table) es))) all in
    by_test (e.leaf == l) refl live
    (all_front P (rows_of (segments_at table e.leaf)) (rows_of (cells_in (map (part_of table) es))) both)
    (live_rows P table es l
    (all_back P (rows_of (segments_at table e.leaf)) (rows_of (cells_in (map (part_of table) es))) both))
  where
    by_test : (t : Bool) → (e.leaf == l) ≡ t → (t || list_any (λ x. x.leaf == l) es) ≡ true
        → AllByRecursion P (rows_of (segments_at table e.leaf))
        → (list_any (λ x. x.leaf == l) es ≡ true → AllByRecursion P (rows_of (segments_at table l)))
        → AllByRecursion P (rows_of (segments_at table l))
    by_test true is any here rest =
        subst (λ n. AllByRecursion P (rows_of (segments_at table n))) (eq_of e.leaf l is) here
    by_test false is any here rest = rest any

-- what holds of all rows of segments holds of those of each
abbrev pub EachRow : (Key × StampedVersions → Type 0) → List VersionedRows → Type 0
EachRow P ss = AllByRecursion (λ s. AllByRecursion P s.rows) ss

each_row : (P : Key × StampedVersions → Type 0) (ss : List VersionedRows) → AllByRecursion P (rows_of ss) → EachRow P ss
each_row P [] all = tt
each_row P (s ∷ ss) all = (all_front P s.rows (rows_of ss) all, each_row P ss (all_back P s.rows (rows_of ss) all))

-- ---- what was laid

module _ (leaves : ℕ) (index : Index) (table : Table) (kept : IsKept index table) (only : IsOnlyLive index table) where
  pub eights : AreEights table
  eights l less = by_test (is_live index l) refl
    where
      by_test : (t : Bool) → is_live index l ≡ t → (segments_at table l ≡ []) ⊎ (length (segments_at table l) ≡ 8)
      by_test true is = inr (live_tied table index.entries l kept.tied is).tied.leaf.segments
      by_test false is = inl (only l is)

  -- each leaf is sound, and its rows are as all
  pub sound_at : (P : Key × StampedVersions → Type 0)
      → AllByRecursion P (rows_of (cells_in (map (part_of table) index.entries))) → (l : ℕ)
      → AllByRecursion IsSegment (segments_at table l) × EachRow P (segments_at table l)
  sound_at P all l = by_test (is_live index l) refl
    where
      by_test : (t : Bool) → is_live index l ≡ t
          → AllByRecursion IsSegment (segments_at table l) × EachRow P (segments_at table l)
      by_test true is = (
        (live_tied table index.entries l kept.tied is).tied.sound,
        each_row P (segments_at table l) (live_rows P table index.entries l all is),
      )
      by_test false is = subst (λ ss. AllByRecursion IsSegment ss × EachRow P ss) (sym (only l is)) (tt, tt)

  pub are_numbered : AreNumbered index table (contents_of (numbered_segments table))
  are_numbered =
      let count = kept.count in
      record {
        live = λ l less live.
            numbered_leaf table l eights (omega (arith, less, count))
            ∙ own (segments_at table l) (live_tied table index.entries l kept.tied live).tied.leaf.segments;
        idle = λ l less dead. subst (AllByRecursion IsIdle)
            (sym (numbered_leaf table l eights (omega (arith, less, count)) ∙ ap eight_or_idle (only l dead)))
            all_idle;
      }
    where
      own : (ss : List VersionedRows) → length ss ≡ 8 → eight_or_idle ss ≡ ss
      own [] eight = absurd (omega (arith, eight))
      own (s ∷ ss) eight = refl

      one_idle : IsIdle idle_segment
      one_idle = record { rows = refl; fences = refl }

      all_idle : AllByRecursion IsIdle (eight_or_idle [])
      all_idle = (one_idle, (one_idle, (one_idle, (one_idle, (one_idle, (one_idle, (one_idle, (one_idle, tt))))))))

-- ---- ranges

-- leaves with the same cells have the same ones by their numbers
pub same_segments : (table : Table) (ranges : List LoadedRange) → HaveCells table ranges
    → numbered_segments table ≡ loaded_segments ranges
same_segments [] [] same = refl
same_segments [] (r ∷ rs) same = let none = ap length same in absurd (omega (arith, none))
same_segments (m ∷ ms) [] same = let none = ap length same in absurd (omega (arith, none))
same_segments (m ∷ ms) (r ∷ rs) same =
    let head : cells_in_memory m ≡ leaf_segments r =
    some_is (cells_in_memory m) (leaf_segments r) (ap (λ l. slice_get l 0) same) in
    let rest = same_segments ms rs (ap (drop 1) same) in
    λ i. head i ++ rest i

-- eight a leaf
pub count_loaded : (ranges : List LoadedRange) → length (loaded_segments ranges) ≡ 8 * length ranges
count_loaded [] = refl
count_loaded (r ∷ rs) =
    let one = length_from 8 r.low r.high r.rows.now in
    let both = length-append (leaf_segments r) (loaded_segments rs) in
    let rest = count_loaded rs in
    omega (arith, one, both, rest)

-- ---- what rests of a cell

pub rest_at : (ss : List VersionedRows) (list : List RestingRows) (k : ℕ) (r : RestingRows) → AreRestOf ss list
    → slice_get list k ≡ Some r
    → (r.rows ≡ rest_rows (cell_of ss k).segment) × ((cell_of ss k).unpacked ≡ false)
rest_at ss [] k r are e = cc
rest_at [] (x ∷ xs) k r are e = let none = ap length are in absurd (omega (arith, none))
rest_at (s ∷ ss) (x ∷ xs) zero r are e =
    let same : x ≡ r = some_is x r e in
    let head : x.rows ≡ rest_rows s = some_is x.rows (rest_rows s) (ap (λ l. slice_get l 0) are) in
    (ap (λ (y : RestingRows). y.rows) (sym same) ∙ head, refl)
rest_at (s ∷ ss) (x ∷ xs) (suc k) r are e = rest_at ss xs k r (ap (drop 1) are) e

-- Rows are divided among leaves, one leaf after the other.
use Rattle.std.proofs.Common.{◌≡◌, ℕ, ◌+◌, ◌<◌, ◌≤◌, List, [], ◌∷◌, ◌++◌, Some, None, length, map, take, drop, set, refl, sym, ◌∙◌, ap, subst, arith}
use Rattle.std.specs.Prelude.{false, replicate}
use Rattle.std.specs.List.{AllByRecursion}
use Rattle.std.specs.declared.boxed.Box.{Box}
use Rattle.std.specs.declared.alloc.Global.{Global}
use Rattle.std.proofs.lemmas.List.{length-drop, length-map, length-replicate, length-take, map-set, take-append-drop}
use denote.RawPtr.{null_ptr}
use Rattle.graph_model.specs.declared.row.Key.{Key}
use Rattle.graph_model.specs.declared.row.Row.{Row}
use Rattle.graph_model.specs.Rows.{end_key, first_key, is_below}
use Rattle.graph_model.proofs.KeyLemmas.{below_flip}
use Rattle.gap_segment.specs.Fenced.{AreSorted, AreWithin, first_key_or}
use Rattle.rule_model.specs.VersionSegment.Rows.{IsSegment, VersionedRows}
use Rattle.rule_model.specs.LeafArrayDeclared.leaf.Leaf.{Leaf}
use Rattle.rule_model.specs.LeafArray.Leaves.{IsLeaf}
use Rattle.rule_model.specs.LeafArray.Segments.{lows_of}
use Rattle.leaf_index.specs.Index.{Index, IsIndex, IsTaken}
use Rattle.leaf_index.specs.Calls.{CanAdd, CanCut, new_index, with_cuts, with_leaf}
use Rattle.rule_model.specs.LeafStore.Settled.{AreSettled}
use Rattle.rule_model.specs.LeafStore.Fill.{IsFilling}
use Rattle.rule_model.proofs.LeafStore.FillEndLemmas.{FirstRows, first_cuts, first_filling, first_rows}
use Rattle.rule_model.proofs.LeafStore.FillLemmas.{NextRows, next_rows}
use Rattle.rule_model.proofs.LeafStore.FillStepLemmas.{can_add, filling_more}
use Rattle.loaded_cells.specs.Laid.{AreDivided, HaveCells}
use Rattle.loaded_cells.specs.Ranges.{AreIdle, cells_in_memory, eight_or_idle, leaf_segments, segments_from}
use Rattle.loaded_cells.specs.declared.fill.LoadedRange.{LoadedRange}
use Rattle.loaded_cells.proofs.FillLemmas.{Table, only_first, only_next}
use Rattle.loaded_cells.proofs.RangeLemmas.{idle_segments, length_from, settled_from}

-- ---- a leaf in memory with the cells of a range

-- statements speak of such leaves, and nobody makes one
abbrev memory_of : LoadedRange → Box Leaf Global
memory_of range = record {
  ptr = null_ptr;
  alloc = record { memory = record { seal = tt } };
  value = record { segments = leaf_segments range };
}

-- one leaf in place of another, on both sides
set_cells : (table : Table) (ranges new : List LoadedRange) (leaf : ℕ) (r : LoadedRange) (memory : Box Leaf Global)
    → memory.value.segments ≡ leaf_segments r → HaveCells table ranges → new ≡ set ranges leaf r
    → HaveCells (set table leaf (Some memory)) new
set_cells table ranges new leaf r memory own same is =
    let cells : cells_in_memory (Some memory) ≡ leaf_segments r = ap eight_or_idle own in
    map-set cells_in_memory table leaf (Some memory) ∙ (λ i. set (same i) leaf (cells i))
    ∙ sym (map-set leaf_segments ranges leaf r) ∙ ap (map leaf_segments) (sym is)

-- no leaf has memory, and none has rows
idle_cells : (ranges : List LoadedRange) → AreIdle ranges → HaveCells (replicate (length ranges) None) ranges
idle_cells [] idle = refl
idle_cells (r ∷ ranges) idle =
    let first = idle_segments r idle.0 in
    let rest = idle_cells ranges idle.1 in
    λ i. sym first i ∷ rest i

-- what holds of a leaf's segments
record AreLeafSegments (low high : Key) (here : List Row) (ss : List VersionedRows) : Type 0 where
  settled : AreSettled low high here ss
  sound : AllByRecursion IsSegment ss
  leaf : IsLeaf ss

segments_are : (low high : Key) (here : List Row) (r : LoadedRange) → length here ≤ 208 → is_below high low ≡ false
    → AreSorted here → AreWithin low high here → r.low ≡ low → r.high ≡ high → r.rows.now ≡ here
    → AreLeafSegments low high here (leaf_segments r)
segments_are low high here r few fences sorted within low_is high_is rows_are =
    let both = settled_from 8 low high here (omega (arith, few)) fences (λ e. absurd (omega (arith, e))) sorted
    within in
    let same : leaf_segments r ≡ segments_from 8 low high here =
    λ i. segments_from 8 (low_is i) (high_is i) (rows_are i) in
    subst (AreLeafSegments low high here) (sym same) (record {
      settled = both.0;
      sound = both.1;
      leaf = record { segments = length_from 8 low high here; chained = both.0.chained };
    })

-- ---- the first leaf

module _ (rows : List Row) (index : Index) (old : List LoadedRange) (r : LoadedRange)
    (cuts : List Key) (sorted : AreSorted rows) (within : AreWithin first_key end_key rows)
    (is_new : index ≡ new_index (length old)) (some : 1 ≤ length old) (idle : AreIdle old)
    (low_is : r.low ≡ first_key) (high_is : r.high ≡ first_key_or (drop 208 rows) end_key)
    (rows_are : r.rows.now ≡ take 208 rows) (are : cuts ≡ lows_of (leaf_segments r)) where
  abbrev here : List Row
  here = take 208 rows

  abbrev behind : List Row
  behind = drop 208 rows

  abbrev table : Table
  table = replicate (length old) None

  first : FirstRows rows here behind
  first =
      let front = length-take 208 rows in
      let back = length-drop 208 rows in
      first_rows rows here behind sorted within (sym (take-append-drop 208 rows))
      (λ left. omega (arith, left, front, back))

  parts : AreLeafSegments first_key (first_key_or behind end_key) here (leaf_segments r)
  parts =
      let front = length-take 208 rows in
      segments_are first_key (first_key_or behind end_key) here r (omega (arith, front))
      (below_flip first_key (first_key_or behind end_key) first.low) first.sorted first.within low_is high_is rows_are

  wide : length table ≡ length old
  wide = length-replicate (length old) None

  can_cut : CanCut first_key cuts index.entries
  can_cut = first_cuts rows here behind index index table table (memory_of r) cuts first
      (sym (take-append-drop 208 rows)) (is_new ∙ ap new_index (sym wide)) (subst (λ n. 1 ≤ n) (sym wide) some)
      parts.settled parts.leaf parts.sound are

  pub can_first : CanCut r.low cuts index.entries
  can_first = subst (λ k. CanCut k cuts index.entries) (sym low_is) can_cut

  pub divided_first : (new : Index) (ranges : List LoadedRange)
      → ((can : CanCut r.low cuts index.entries) → new.entries ≡ with_cuts r.low cuts index.entries can)
      → new ≡ record index { entries = new.entries } → IsIndex new → ranges ≡ set old 0 r
      → AreDivided rows (length r.rows.now) new ranges
  divided_first new ranges sets others ready is =
      let memory = memory_of r in
      let sets' : (can : CanCut first_key cuts index.entries)
      → new.entries ≡ with_cuts first_key cuts index.entries can =
      subst (λ k. (can : CanCut k cuts index.entries) → new.entries ≡ with_cuts k cuts index.entries can) low_is
      sets in
      let is_new' = is_new ∙ ap new_index (sym wide) in
      let front = length-take 208 rows in
      let filling = first_filling rows here behind index new table (set table 0 (Some memory)) memory cuts first
      (sym (take-append-drop 208 rows)) is_new' (subst (λ n. 1 ≤ n) (sym wide) some) parts.settled parts.leaf
      parts.sound are sets' others ready refl (omega (arith, front)) in
      record {
        table = set table 0 (Some memory);
        same = set_cells table old ranges 0 r memory refl (idle_cells old idle) is;
        filling = subst (λ xs. IsFilling rows (length xs) new (set table 0 (Some memory))) (sym rows_are) filling;
        only = only_first index new table (set table 0 (Some memory)) memory first_key cuts is_new'
            (ap (λ n. replicate n None) (sym wide)) can_cut (sets' can_cut) refl;
      }

-- ---- a leaf more

-- the rows before it, its own and those behind it are all, and it has some
pub count_next : (rows : List Row) (at : ℕ) (here behind : List Row) → at < length rows
    → here ≡ take 208 (drop at rows) → behind ≡ drop 208 (drop at rows)
    → (length rows ≡ at + length here + length behind) × (1 ≤ length here)
count_next rows at here behind more is rest =
    let own = ap length is in
    let others = ap length rest in
    let front = length-take 208 (drop at rows) in
    let back = length-drop 208 (drop at rows) in
    let left = length-drop at rows in
    (omega (arith, own, others, front, back, left, more), omega (arith, own, front, left, more))

module _ (rows : List Row) (at : ℕ) (index taken : Index) (old : List LoadedRange) (leaf : ℕ)
    (sorted : AreSorted rows) (within : AreWithin first_key end_key rows) (divided : AreDivided rows at index old)
    (more : at < length rows) (takes : index ≡ record taken { free = taken.free ++ leaf ∷ [] })
    (free : IsTaken taken leaf) where
  pub leaf_inside : leaf < length old
  leaf_inside =
      let count = divided.filling.count in
      let exists = free.exists in
      let limit = ap (λ (i : Index). i.leaves) takes in
      let same = ap length divided.same in
      let memory = length-map divided.table cells_in_memory in
      let own = length-map old leaf_segments in
      omega (arith, count, exists, limit, same, memory, own)

  module _ (r : LoadedRange) (cuts : List Key) (low_is : r.low ≡ first_key_or (drop at rows) end_key)
      (high_is : r.high ≡ first_key_or (drop 208 (drop at rows)) end_key)
      (rows_are : r.rows.now ≡ take 208 (drop at rows)) (are : cuts ≡ lows_of (leaf_segments r)) where
    abbrev next_here : List Row
    next_here = take 208 (drop at rows)

    abbrev next_behind : List Row
    next_behind = drop 208 (drop at rows)

    pub some_here : 1 ≤ length next_here
    some_here =
        let front = length-take 208 (drop at rows) in
        let left = length-drop at rows in
        omega (arith, front, left, more)

    next : NextRows rows next_here next_behind at
    next = next_rows rows next_here next_behind at sorted within divided.filling.within
        (sym (take-append-drop 208 (drop at rows))) some_here

    abbrev low : Key
    low = first_key_or next_here end_key

    abbrev high : Key
    high = first_key_or next_behind end_key

    begins : r.low ≡ low
    begins = low_is ∙ next.begin

    next_parts : AreLeafSegments low high next_here (leaf_segments r)
    next_parts =
        let front = length-take 208 (drop at rows) in
        segments_are low high next_here r (omega (arith, front)) (below_flip low high next.low) next.sorted next.within
        begins high_is rows_are

    can_put : CanAdd low cuts taken.entries
    can_put = can_add rows next_here next_behind at index taken divided.table leaf divided.filling more takes free next
        (leaf_segments r) next_parts.settled next_parts.leaf next_parts.sound cuts are

    pub can_next : CanAdd r.low cuts taken.entries
    can_next = subst (λ k. CanAdd k cuts taken.entries) (sym begins) can_put

    pub divided_next : (new : Index) (ranges : List LoadedRange)
        → ((can : CanAdd r.low cuts taken.entries) → new.entries ≡ with_leaf r.low leaf cuts taken.entries can)
        → new ≡ record taken { entries = new.entries } → IsIndex new → ranges ≡ set old leaf r
        → AreDivided rows (at + length r.rows.now) new ranges
    divided_next new ranges adds others ready is =
        let memory = memory_of r in
        let table' = set divided.table leaf (Some memory) in
        let adds' : (can : CanAdd low cuts taken.entries)
        → new.entries ≡ with_leaf low leaf cuts taken.entries can =
        subst (λ k. (can : CanAdd k cuts taken.entries) → new.entries ≡ with_leaf k leaf cuts taken.entries can)
        begins adds in
        let count = divided.filling.count in
        let exists = free.exists in
        let limit = ap (λ (i : Index). i.leaves) takes in
        let front = length-take 208 (drop at rows) in
        let back = length-drop 208 (drop at rows) in
        let filling = filling_more rows next_here next_behind at index taken divided.table leaf divided.filling more
        takes free next (leaf_segments r) next_parts.settled next_parts.leaf next_parts.sound cuts are new memory table'
        adds' others ready refl refl (omega (arith, count, exists, limit)) (omega (arith, front, back)) some_here in
        record {
          table = table';
          same = set_cells divided.table old ranges leaf r memory refl divided.same is;
          filling = subst (λ xs. IsFilling rows (at + length xs) new table') (sym rows_are) filling;
          only = only_next index taken new divided.table table' memory leaf low cuts
              (ap (λ (i : Index). i.entries) takes) can_put (adds' can_put) refl divided.only;
        }

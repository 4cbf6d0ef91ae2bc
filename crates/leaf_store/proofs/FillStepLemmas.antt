-- One leaf more is laid with rows.
use Rattle.std.proofs.Common.{◌≡◌, ℕ, ◌+◌, ◌-◌, ◌<◌, ◌≤◌, List, [], ◌∷◌, ◌++◌, Option, Some, length, map, take, drop, set, min, refl, sym, ◌∙◌, ap, ap₂, subst, arith, length-append}
use Rattle.std.specs.Prelude.{true, false, slice_get}
use Rattle.std.specs.List.{AllByRecursion}
use Rattle.std.specs.declared.boxed.Box.{Box}
use Rattle.std.specs.declared.alloc.Global.{Global}
use Rattle.std.proofs.Math.ListN.{length-set}
use Rattle.std.proofs.lemmas.List.{append-nil, length-map, map-append}
use Rattle.graph_model.specs.declared.limits.TheConstants.{SPLIT_ROWS}
use Rattle.graph_model.specs.declared.row.Key.{Key}
use Rattle.graph_model.specs.declared.row.Row.{Row}
use Rattle.graph_model.specs.Rows.{is_below, first_key, end_key}
use Rattle.graph_model.proofs.KeyLemmas.{below_chain, upto_chain}
use Rattle.graph_model.proofs.PlaceLemmas.{some_eq}
use Rattle.gap_segment.specs.Fenced.{first_key_or}
use Rattle.leaf_table.specs.VersionSegment.Rows.{VersionedRows, settled_row, settled_rows}
use Rattle.leaf_table.specs.LeafArrayDeclared.leaf.Leaf.{Leaf}
use Rattle.leaf_table.specs.LeafArray.Leaves.{IsLeaf}
use Rattle.leaf_table.specs.LeafArray.Segments.{rows_of, lows_of, low_or, high_or}
use Rattle.leaf_table.proofs.LeafArray.LeafLemmas.{Follow, follow-of}
use Rattle.leaf_table.proofs.LeafArray.PairLemmas.{rows-append}
use Rattle.leaf_index.specs.Index.{Index, Entry, AreCuts, AreSorted as AreSortedKeys, HaveCuts, IsIndex, IsTaken, NotAbove, end_of, first_or}
use Rattle.leaf_index.specs.Calls.{CanAdd, with_leaf}
use Rattle.leaf_table.specs.Settled.{AreSettled, IsLeafFrom, next_key}
use Rattle.leaf_store.specs.Fill.{AreTiedTo, IsFilling, begin_of, parts_in}
use Rattle.leaf_store.specs.Table.{IsTied, part_of, segments_or_none, segments_at}
use Rattle.leaf_store.proofs.CellLemmas.{AreSound}
use Rattle.leaf_table.proofs.FillLemmas.{NextRows}
use Rattle.leaf_store.proofs.HalfLemmas.{SameMemory}
use Rattle.leaf_queue.proofs.ListLemmas.{get_set_same, get_set_other}
use Rattle.leaf_store.proofs.ListLemmas.{all_back}
use Rattle.gap_segment.proofs.FencedLemmas.{all_append}
use Rattle.leaf_store.proofs.MoveLemmas.{sorted_lows}
use Rattle.leaf_store.proofs.SplitLemmas.{are_cuts, taken_apart}
use Rattle.leaf_store.proofs.StoreLemmas.{cells_in, cells_split, weight_in, weight_one, weight_split}
use Rattle.leaf_store.proofs.TableLemmas.{OtherLeaves, Table, cuts_at}

-- ---- the last entry

record Last (es : List Entry) : Type 0 where
  front : List Entry
  last : Entry
  is : es ≡ front ++ last ∷ []

last_of : (es : List Entry) → end_of es ≡ first_key → Last es
last_of [] first = let same = ap (λ (k : Key). k.src) first in absurd (omega (arith, same))
last_of (e ∷ es) first = go e es
  where
    go : (e : Entry) (es : List Entry) → Last (e ∷ es)
    go e [] = record { front = []; last = e; is = refl }
    go e (f ∷ es) = let rest = go f es in record { front = e ∷ rest.front; last = rest.last; is = ap (λ xs. e ∷ xs) rest.is }

tied_last : (table : Table) (high : Key) (front : List Entry) (e : Entry) → AreTiedTo table high (front ++ e ∷ []) → IsTied (segments_at table e.leaf) e high
tied_last table high [] e tied = tied.0
tied_last table high (f ∷ front) e tied = tied_last table high front e tied.1

-- cuts up to a key are cuts up to a later one
pub sorted_further : (ks : List Key) (high further : Key) → AreSortedKeys ks high → is_below further high ≡ false → AreSortedKeys ks further
sorted_further [] high further sorted le = tt
sorted_further (k ∷ ks) high further sorted le = (next ks sorted.0, sorted_further ks high further sorted.1 le)
  where
    next : (ks : List Key) → NotAbove k (first_or ks high) → NotAbove k (first_or ks further)
    next [] first = upto_chain k high further first le
    next (j ∷ ks) first = first

-- ---- one entry more

tied_more : (table new : Table) (high : Key) (es : List Entry) (e : Entry) → SameMemory table new es → AreTiedTo table e.low es → IsTied (segments_at new e.leaf) e high → AreTiedTo new high (es ++ e ∷ [])
tied_more table new high [] e same tied one = (one, tt)
tied_more table new high (f ∷ es) e same tied one =
    (subst (IsTied (segments_at new f.leaf) f) (begins es) (subst (λ ss. IsTied ss f (begin_of es e.low)) (sym same.0) tied.0), tied_more table new high es e same.1 tied.1 one)
  where
    begins : (es : List Entry) → begin_of es e.low ≡ begin_of (es ++ e ∷ []) high
    begins [] = refl
    begins (g ∷ es) = refl

parts_kept_on : (table new : Table) (es : List Entry) → SameMemory table new es → map (part_of new) es ≡ map (part_of table) es
parts_kept_on table new [] same = refl
parts_kept_on table new (e ∷ es) same =
    let first : part_of new e ≡ part_of table e = λ i. record { leaf = e.leaf; segments = same.0 i } in
    λ i. first i ∷ parts_kept_on table new es same.1 i

others_same : (table : Table) (leaf : ℕ) (x : Option (Box Leaf Global)) (es : List Entry) → OtherLeaves leaf es → SameMemory table (set table leaf x) es
others_same table leaf x [] others = tt
others_same table leaf x (e ∷ es) others = (ap segments_or_none (get_set_other table leaf e.leaf x others.0), others_same table leaf x es others.1)

all_below : (low high : Key) (es : List Entry) → is_below low high ≡ true → AllByRecursion (λ e. is_below e.low low ≡ true) es → AllByRecursion (λ e. is_below e.low high ≡ true) es
all_below low high [] lt below = tt
all_below low high (e ∷ es) lt below = (below_chain e.low low high below.0 lt, all_below low high es lt below.1)

-- ---- the leaf is added

-- the memory that was made for it
pub settled_from : (rows here behind : List Row) (at : ℕ) (memory : Box Leaf Global) → IsLeafFrom rows at memory → here ≡ take (min (length (drop at rows)) 208) (drop at rows)
    → behind ≡ drop (min (length (drop at rows)) 208) (drop at rows) → AreSettled (first_key_or here end_key) (first_key_or behind end_key) here memory.value.segments
settled_from rows here behind at memory is front back = rw (front, back) is.settled

module _ (rows here behind : List Row) (at : ℕ) (index taken : Index) (table : Table) (leaf : ℕ) (filling : IsFilling rows at index table) (more : at < length rows) (takes : index ≡ record taken { free = taken.free ++ leaf ∷ [] }) (free : IsTaken taken leaf) (next : NextRows rows here behind at) where
  abbrev low : Key
  low = first_key_or here end_key

  abbrev high : Key
  high = first_key_or behind end_key

  same_entries : index.entries ≡ taken.entries
  same_entries = ap (λ (i : Index). i.entries) takes

  module _ (ss : List VersionedRows) (settled : AreSettled low high here ss) (is_leaf : IsLeaf ss) (sound : AreSound ss) (cuts : List Key) (are : cuts ≡ lows_of ss) where
    follow_ss : Follow low ss
    follow_ss = follow-of low ss settled.begins settled.chained

    pub can_add : CanAdd low cuts taken.entries
    can_add =
        let l = last_of index.entries filling.index_is.first in
        let tied = tied_last table (next_key rows at) l.front l.last (subst (AreTiedTo table (next_key rows at)) l.is filling.tied) in
        let own = (cuts_at l.front (l.last ∷ []) (subst HaveCuts l.is filling.index_is.cuts)).0 in
        let follow : Follow l.last.low (segments_at table l.last.leaf) = follow-of l.last.low (segments_at table l.last.leaf) (low_is (segments_at table l.last.leaf) l.last.cuts l.last.low tied.cuts own.begin) tied.leaf.chained in
        let until : high_or (segments_at table l.last.leaf) l.last.low ≡ low = tied.ends ∙ next.begin in
        let last_below = (all_back (λ (e : Entry). is_below e.low (next_key rows at) ≡ true) l.front (l.last ∷ []) (subst (AllByRecursion (λ (e : Entry). is_below e.low (next_key rows at) ≡ true)) l.is filling.below)).0 in
        let cuts_are = are_cuts low high ss follow_ss sound is_leaf.segments settled.ends in
        record {
          front = l.front;
          before = l.last;
          back = [];
          is = sym same_entries ∙ l.is;
          begins = subst (λ k. is_below l.last.low k ≡ true) next.begin last_below;
          above = tt;
          older = subst (λ ks. AreSortedKeys ks low) tied.cuts (subst (AreSortedKeys (lows_of (segments_at table l.last.leaf))) until (sorted_lows l.last.low (segments_at table l.last.leaf) follow tied.sound));
          newer = subst (λ ks. AreCuts low ks end_key) (sym are) (record { count = cuts_are.count; begin = cuts_are.begin; sorted = sorted_further (lows_of ss) high end_key cuts_are.sorted next.until });
        }
      where
        low_is : (ss : List VersionedRows) (cuts : List Key) (low : Key) → lows_of ss ≡ cuts → slice_get cuts 0 ≡ Some low → low_or ss low ≡ low
        low_is [] cuts low lows begin = refl
        low_is (s ∷ ss) cuts low lows begin = some_eq s.low low (ap (λ ks. slice_get ks 0) lows ∙ begin)

    module _ (new : Index) (memory : Box Leaf Global) (table' : Table) (adds : (can : CanAdd low cuts taken.entries) → new.entries ≡ with_leaf low leaf cuts taken.entries can) (others : new ≡ record taken { entries = new.entries }) (ready : IsIndex new) (own : memory.value.segments ≡ ss)
        (is : table' ≡ set table leaf (Some memory)) (wide : leaf < length table) (few : length here ≡ min (length here + length behind) 208) (some : 1 ≤ length here) where
      abbrev e : Entry
      e = record { low = low; leaf = leaf; cuts = cuts }

      entries_more : new.entries ≡ index.entries ++ e ∷ []
      unfolding can_add
      entries_more = adds can_add ∙ ap (λ es. es ++ e ∷ []) (sym can_add.is ∙ sym same_entries)

      same : SameMemory table table' index.entries
      same = subst (λ t. SameMemory table t index.entries) (sym is) (others_same table leaf (Some memory) index.entries (subst (OtherLeaves leaf) (sym same_entries) (taken_apart taken leaf free)))

      here_is : segments_at table' leaf ≡ ss
      here_is = ap (λ t. segments_at t leaf) is ∙ ap segments_or_none (get_set_same table leaf (Some memory) wide) ∙ own

      parts_more : parts_in new table' ≡ parts_in index table ++ (part_of table' e ∷ [] ++ [])
      parts_more = ap (map (part_of table')) entries_more ∙ map-append (part_of table') index.entries (e ∷ []) ∙ ap (λ ps. ps ++ part_of table' e ∷ []) (parts_kept_on table table' index.entries same)

      rows_more : rows_of (cells_in (parts_in new table')) ≡ settled_rows (take (at + length here) rows)
      rows_more =
          ap (λ ps. rows_of (cells_in ps)) parts_more ∙ ap rows_of (cells_split (parts_in index table) (part_of table' e ∷ []) [])
          ∙ rows-append (cells_in (parts_in index table)) ((segments_at table' leaf ++ []) ++ [])
          ∙ ap₂ (λ xs ys. xs ++ ys) filling.rows_are (ap rows_of (append-nil (segments_at table' leaf ++ []) ∙ append-nil (segments_at table' leaf) ∙ here_is) ∙ settled.rows_are)
          ∙ sym (map-append settled_row (take at rows) here) ∙ ap settled_rows (sym next.front)

      weight_more : weight_in (parts_in new table') ≡ weight_in (parts_in index table) + (length here - (SPLIT_ROWS + 1))
      weight_more =
          let count : length (rows_of (segments_at table' leaf)) ≡ length here = ap (λ cs. length (rows_of cs)) here_is ∙ ap length settled.rows_are ∙ length-map here settled_row in
          let all = ap weight_in parts_more ∙ weight_split (parts_in index table) (part_of table' e ∷ []) [] in
          omega (arith, all, weight_one (part_of table' e), count)

      pub filling_more : IsFilling rows (at + length here) new table'
      filling_more =
          let leaves : new.leaves ≡ index.leaves = ap (λ (i : Index). i.leaves) others ∙ sym (ap (λ (i : Index). i.leaves) takes) in
          let entries_count : length new.entries ≡ length index.entries + 1 = ap length entries_more ∙ length-append index.entries (e ∷ []) in
          let free_count : length index.free ≡ length taken.free + 1 = ap (λ (i : Index). length i.free) takes ∙ length-append taken.free (leaf ∷ []) in
          let new_free : length new.free ≡ length taken.free = ap (λ (i : Index). length i.free) others in
          let full = filling.full more in
          let begin : next_key rows (at + length here) ≡ high = ap (λ ys. first_key_or ys end_key) next.rest in
          let one : IsTied (segments_at table' leaf) e high = subst (λ cs. IsTied cs e high) (sym here_is) (record { leaf = is_leaf; sound = sound; cuts = sym are; ends = settled.ends }) in
          let tied : AreTiedTo table' high (index.entries ++ e ∷ []) = tied_more table table' high index.entries e same (subst (λ k. AreTiedTo table k index.entries) next.begin filling.tied) one in
          let below : AllByRecursion (λ (x : Entry). is_below x.low high ≡ true) (index.entries ++ e ∷ []) =
          all_append (λ (x : Entry). is_below x.low high ≡ true) index.entries (e ∷ []) (all_below low high index.entries next.low (subst (λ k. AllByRecursion (λ (x : Entry). is_below x.low k ≡ true) index.entries) next.begin filling.below)) (next.low, tt) in
          record {
            within = omega (arith, next.all);
            count = ap length is ∙ length-set table leaf (Some memory) ∙ filling.count ∙ sym leaves;
            index_is = ready;
            tied = subst (λ k. AreTiedTo table' k new.entries) (sym begin) (subst (AreTiedTo table' high) (sym entries_more) tied);
            rows_are = rows_more;
            retired = ap (λ (i : Index). i.retired) others ∙ sym (ap (λ (i : Index). i.retired) takes) ∙ filling.retired;
            lists = omega (arith, filling.lists, entries_count, free_count, new_free, leaves);
            below = subst (λ k. AllByRecursion (λ (x : Entry). is_below x.low k ≡ true) new.entries) (sym begin) (subst (AllByRecursion (λ (x : Entry). is_below x.low high ≡ true)) (sym entries_more) below);
            weight = omega (arith, weight_more, entries_count, full.0, full.1, few, some);
            full = λ left. (omega (arith, entries_count, full.0, few, next.all, left), omega (arith, weight_more, entries_count, full.1, few, next.all, left));
          }

-- A window of a live leaf is spread, and the index has the leaf's new cuts.
use Rattle.std.proofs.Common.{◌≡◌, ℕ, zero, suc, ◌+◌, ◌*◌, ◌^◌, ◌<◌, ◌≤◌, List, [], ◌∷◌, ◌++◌, Option, Some, None, length, map, take, drop, set, get_or, sum, refl, sym, ◌∙◌, ap, subst, arith, inl, inr, length-append}
use Rattle.std.specs.Prelude.{true, ◌⊎◌, slice_get, slice_index}
use Rattle.std.specs.Box.{with_value}
use Rattle.std.specs.declared.boxed.Box.{Box}
use Rattle.std.specs.declared.alloc.Global.{Global}
use Rattle.std.proofs.Math.ListN.{length-set}
use Rattle.std.proofs.lemmas.Option.{slice_get_read}
use Rattle.std.proofs.lemmas.List.{length-map, take-map}
use Rattle.std.proofs.lemmas.List.Sums.{sum_by-cons}
use Rattle.graph_model.specs.declared.row.Key.{Key}
use Rattle.graph_model.specs.Rows.{is_below, first_key, end_key}
use Rattle.leaf_table.specs.VersionSegment.Rows.{VersionedRows}
use Rattle.density_tree.specs.declared.window.Window.{Window}
use Rattle.density_tree.specs.declared.window.TheConstants.{UPPER_LIMITS}
use Rattle.density_tree.specs.Windows.{Fits, IsRound, IsSmallest, rows_in}
use Rattle.leaf_table.specs.LeafArrayDeclared.leaf.Leaf.{Leaf}
use Rattle.leaf_table.specs.LeafArray.Segments.{records_of, rows_of, counts_of, count_of, lows_of, AreSame}
use Rattle.leaf_table.specs.LeafArray.Leaves.{IsLeaf, IsWindow, SpreadsWindow, window_of}
use Rattle.leaf_table.proofs.LeafArray.LeafLemmas.{Follow, follow-of, follow-low}
use Rattle.leaf_index.specs.Index.{Index, Entry, AreCuts, AreSorted, HaveCuts, IsIndex, end_of}
use Rattle.leaf_index.specs.Calls.{CanCut, with_cuts}
use Rattle.leaf_table.specs.declared.place.Place.{Place}
use Rattle.leaf_store.specs.Leaves.{cell_in, record_count, room_at}
use Rattle.leaf_store.specs.Merging.{KeepsParts}
use Rattle.leaf_store.specs.Pairs.{SpreadsLeaf, Stands}
use Rattle.leaf_store.specs.Table.{IsKept, IsTied, AreTied, IsPlace, part_of, segments_or_none, segments_at, leaves_of}
use Rattle.leaf_store.proofs.CellLemmas.{AreSound, holds}
use Rattle.leaf_store.proofs.ChangeLemmas.{beyond_table}
use Rattle.leaf_queue.proofs.ListLemmas.{get_set_same}
use Rattle.leaf_store.proofs.MoveLemmas.{LeafMoved, Respreads, cell_in_leaf, leaf_moved, room_in_spread, room_of, same_lows, same_respreads, sorted_lows, spread_respreads}
use Rattle.leaf_store.proofs.SameLemmas.{keeps_parts, leaf_settled, one_same, window_settled}
use Rattle.leaf_store.proofs.TableLemmas.{Table, KeepsOthers, Located, cuts_at, located, other_leaf, others_kept, parts_append, tied_at, tied_follow}

-- ---- a live leaf in memory

-- the memory of a live leaf, whose entry stands among others
pub record LeafAt (index : Index) (table : Table) (leaf : ℕ) (segments : List VersionedRows) : Type 0 where
  pub front : List Entry
  pub entry : Entry
  pub back : List Entry
  pub entries : index.entries ≡ front ++ entry ∷ back
  pub number : leaf ≡ entry.leaf
  pub same : segments_at table leaf ≡ segments
  pub tied : IsTied segments entry (end_of back)
  pub cuts : AreCuts entry.low entry.cuts (end_of back)
  pub within : leaf < length table

-- a leaf with segments has memory
segments_there : (o : Option (Option (Box Leaf Global))) → length (segments_or_none o) ≡ 8 → (o ≡ None → ⊥) × (o ≡ Some None → ⊥)
segments_there o eight = ((λ e. none (ap (λ x. length (segments_or_none x)) e)), (λ e. none (ap (λ x. length (segments_or_none x)) e)))
  where
    none : length (segments_or_none o) ≡ 0 → ⊥
    none e = absurd (omega (arith, eight, e))

module _ (table : Table) (leaf : ℕ) (eight : length (segments_at table leaf) ≡ 8) where
  pub memory_within : leaf < length table
  memory_within = beyond_table table leaf (segments_there (slice_get table leaf) eight).0

  item_there : (item : Option (Box Leaf Global)) → item ≡ get_or table leaf item → slice_get table leaf ≡ Some item
  item_there item is = slice_get_read table (length table) leaf item refl memory_within is

  pub memory_some : (item : Option (Box Leaf Global)) → item ≡ get_or table leaf item → item ≡ None → ⊥
  memory_some item is none = (segments_there (slice_get table leaf) eight).1 (item_there item is ∙ ap Some none)

  pub memory_segments : (item : Option (Box Leaf Global)) (box : Box Leaf Global) (now : Leaf) → item ≡ get_or table leaf item → item ≡ Some box → now ≡ box.value → segments_at table leaf ≡ now.segments
  memory_segments item box now is some value =
      ap segments_or_none (item_there item is ∙ ap Some some) ∙ sym (ap (λ (x : Leaf). x.segments) value)

module _ (index : Index) (table : Table) (leaf : ℕ) (kept : IsKept index table) (s : Stands index.entries leaf) where
  pub stands_tied : IsTied (segments_at table leaf) s.entry (end_of s.back)
  stands_tied =
      subst (λ n. IsTied (segments_at table n) s.entry (end_of s.back)) (sym s.number) (tied_at table s.front (s.entry ∷ s.back) (subst (AreTied table) s.is kept.tied)).0

  pub stands_cuts : AreCuts s.entry.low s.entry.cuts (end_of s.back)
  stands_cuts = (cuts_at s.front (s.entry ∷ s.back) (subst HaveCuts s.is kept.index_is.cuts)).0

  pub stands_leaf : IsLeaf (segments_at table leaf)
  stands_leaf = stands_tied.leaf

  pub stands_within : leaf < length table
  stands_within = memory_within table leaf stands_tied.leaf.segments

  pub stands_memory : (item : Option (Box Leaf Global)) → item ≡ get_or table leaf item → item ≡ None → ⊥
  stands_memory = memory_some table leaf stands_tied.leaf.segments

  pub stands_segments : (item : Option (Box Leaf Global)) (box : Box Leaf Global) (now : Leaf) → item ≡ get_or table leaf item → item ≡ Some box → now ≡ box.value → segments_at table leaf ≡ now.segments
  stands_segments = memory_segments table leaf stands_tied.leaf.segments

  pub stands_at : (item : Option (Box Leaf Global)) (box : Box Leaf Global) (now : Leaf) → item ≡ get_or table leaf item → item ≡ Some box → now ≡ box.value → LeafAt index table leaf now.segments
  stands_at item box now is some value =
      let same = stands_segments item box now is some value in
      record {
        front = s.front;
        entry = s.entry;
        back = s.back;
        entries = s.is;
        number = s.number;
        same = same;
        tied = subst (λ ss. IsTied ss s.entry (end_of s.back)) same stands_tied;
        cuts = stands_cuts;
        within = stands_within;
      }

  -- a spread of a window with few rows leaves the same rows
  pub spread_here : (window : Window) (ss ns : List VersionedRows) → (a : LeafAt index table leaf ss) → IsWindow window → length (rows_of (window_of window (segments_at table leaf))) ≤ 30 * window.len → AreSound ns → SpreadsWindow window ss ns → Respreads ss ns
  spread_here window ss ns a wide few sound spreads =
      spread_respreads window ss ns a.tied.leaf a.tied.sound sound spreads wide.some (subst (λ cs. length (rows_of (window_of window cs)) ≤ 30 * window.len) a.same few)

module _ (index : Index) (table : Table) (key : Key) (place : Place) (kept : IsKept index table) (is : IsPlace key index.entries place) (below : is_below key end_key ≡ true) where
  at : Located index table key place
  at = located index table key place kept is below

  pub place_stands : Stands index.entries place.leaf
  place_stands = record { front = at.front; entry = at.entry; back = at.back; is = at.entries; number = at.leaf }

  -- the key's cell in a window that is spread
  pub spread_leaf : (window : Window) (ss ns : List VersionedRows) → (a : LeafAt index table place.leaf ss) → IsRound place.segment window → IsWindow window → length (rows_of (window_of window (segments_at table place.leaf))) ≤ 30 * window.len → AreSound ns → SpreadsWindow window ss ns
      → (holds (cell_in ns key) key ≡ true) × (2 ≤ room_of (cell_in ns key))
  spread_leaf window ss ns a round wide few sound spreads =
      let l = at in
      let cells : ss ≡ l.before ++ l.cell ∷ l.behind = sym a.same ∙ l.segments in
      let rows : length (rows_of (window_of window ss)) ≤ 30 * window.len = subst (λ cs. length (rows_of (window_of window cs)) ≤ 30 * window.len) a.same few in
      room_in_spread window ss ns a.tied.leaf a.tied.sound sound spreads wide.some rows key l.before l.cell l.behind cells l.held (omega (arith, round.from, l.at)) (omega (arith, round.until, l.at))

-- ---- its memory changes

abbrev pub with_leaf_at : Table → ℕ → Box Leaf Global → Leaf → Table
with_leaf_at table leaf box now = set table leaf (Some (with_value box now))

module _ (index : Index) (table : Table) (leaf : ℕ) (ss : List VersionedRows) (a : LeafAt index table leaf ss) (kept : IsKept index table) (box : Box Leaf Global) (now : Leaf) where
  own : segments_at (with_leaf_at table leaf box now) leaf ≡ now.segments
  own = ap segments_or_none (get_set_same table leaf (Some (with_value box now)) a.within)

  -- with the same cuts
  pub same_moved : AreSame ss now.segments → LeafMoved index index table (with_leaf_at table leaf box now)
  same_moved same =
      leaf_moved index index table (with_leaf_at table leaf box now) a.front a.entry a.entry a.back now.segments kept a.entries a.entries refl refl (same_lows ss now.segments same ∙ a.tied.cuts) kept.index_is refl refl refl
      (length-set table leaf (Some (with_value box now))) (subst (KeepsOthers table (with_leaf_at table leaf box now)) a.number (others_kept table leaf (Some (with_value box now)))) (ap (segments_at (with_leaf_at table leaf box now)) (sym a.number) ∙ own)
      (subst (λ cs. Respreads cs now.segments) (sym a.same ∙ ap (segments_at table) a.number) (same_respreads ss now.segments a.tied.leaf a.tied.sound same))

  -- its new cuts may be set
  pub can_cut : (cuts : List Key) (d : Key) → Respreads ss now.segments → cuts ≡ lows_of now.segments → CanCut (get_or cuts 0 d) cuts index.entries
  can_cut cuts d respreads are =
      let low = a.entry.low in
      let follow = follow-of low now.segments (respreads.low low ∙ follow-low low ss (tied_follow ss a.entry (end_of a.back) a.tied a.cuts)) respreads.leaf.chained in
      let first = first_low now.segments low follow respreads.leaf.segments in
      let begin : slice_get cuts 0 ≡ Some low = ap (λ ks. slice_get ks 0) are ∙ first.0 in
      let same : low ≡ get_or cuts 0 d = sym (ap (λ ks. get_or ks 0 d) are ∙ first.1) in
      record {
        front = a.front;
        entry = a.entry;
        back = a.back;
        is = a.entries;
        same = same;
        fit = subst (λ k. AreCuts k cuts (end_of a.back)) same (record {
          count = ap length are ∙ length-map now.segments (λ s. s.low) ∙ respreads.leaf.segments;
          begin = begin;
          sorted = subst (λ ks. AreSorted ks (end_of a.back)) (sym are) (subst (AreSorted (lows_of now.segments)) (respreads.high low ∙ a.tied.ends) (sorted_lows low now.segments follow respreads.sound));
        });
      }
    where
      first_low : (ns : List VersionedRows) (low : Key) → Follow low ns → length ns ≡ 8 → (slice_get (lows_of ns) 0 ≡ Some low) × (get_or (lows_of ns) 0 d ≡ low)
      first_low [] low follow eight = absurd (omega (arith, eight))
      first_low (n ∷ ns) low follow eight = (ap Some follow.0, follow.0)

  -- and then the store has the leaf so
  pub cut_moved : (index' : Index) (cuts : List Key) → (respreads : Respreads ss now.segments) → (are : cuts ≡ lows_of now.segments) → IsIndex index' → ((can : CanCut (get_or cuts 0 first_key) cuts index.entries) → index'.entries ≡ with_cuts (get_or cuts 0 first_key) cuts index.entries can)
      → index' ≡ record index { entries = index'.entries } → LeafMoved index index' table (with_leaf_at table leaf box now)
  unfolding can_cut
  cut_moved index' cuts respreads are ready entries others =
      leaf_moved index index' table (with_leaf_at table leaf box now) a.front a.entry (record a.entry { cuts = cuts }) a.back now.segments kept a.entries (entries (can_cut cuts first_key respreads are)) refl refl (sym are) ready
      (ap (λ (i : Index). i.leaves) others) (ap (λ (i : Index). i.free) others) (ap (λ (i : Index). i.retired) others)
      (length-set table leaf (Some (with_value box now))) (subst (KeepsOthers table (with_leaf_at table leaf box now)) a.number (others_kept table leaf (Some (with_value box now)))) (ap (segments_at (with_leaf_at table leaf box now)) (sym a.number) ∙ own)
      (subst (λ cs. Respreads cs now.segments) (sym a.same ∙ ap (segments_at table) a.number) respreads)

  -- a window is spread, as contracts say it
  pub cut_spread : (index' : Index) (cuts : List Key) (window : Window) → (respreads : Respreads ss now.segments) → (are : cuts ≡ lows_of now.segments) → ((can : CanCut (get_or cuts 0 first_key) cuts index.entries) → index'.entries ≡ with_cuts (get_or cuts 0 first_key) cuts index.entries can)
      → index' ≡ record index { entries = index'.entries } → SpreadsWindow window ss now.segments → SpreadsLeaf window leaf (segments_at table leaf) (leaves_of index table) (leaves_of index' (with_leaf_at table leaf box now))
  unfolding can_cut
  cut_spread index' cuts window respreads are entries others spreads =
      let new = with_leaf_at table leaf box now in
      let keeps : KeepsOthers table new a.entry.leaf = subst (KeepsOthers table new) a.number (others_kept table leaf (Some (with_value box now))) in
      let parts = other_leaf index table new a.front a.entry (record a.entry { cuts = cuts }) a.back now.segments index'.entries kept a.entries (entries (can_cut cuts first_key respreads are)) refl keeps (ap (segments_at new) (sym a.number) ∙ own) in
      record {
        front = map (part_of table) a.front;
        part = part_of table a.entry;
        back = map (part_of table) a.back;
        segments = now.segments;
        was = ap (map (part_of table)) a.entries ∙ parts_append table a.front (a.entry ∷ a.back);
        now = λ i. record { limit = ap (λ (x : Index). x.leaves) others i; parts = parts i; free = ap (λ (x : Index). x.free) others i; retired = ap (λ (x : Index). x.retired) others i };
        number = sym a.number;
        same = ap (segments_at table) (sym a.number);
        spreads = subst (λ cs. SpreadsWindow window cs now.segments) (sym a.same) spreads;
      }

  -- only room for records has changed, as contracts say it
  pub same_stays : AreSame ss now.segments → KeepsParts (leaves_of index table) (leaves_of index (with_leaf_at table leaf box now))
  same_stays same =
      let new = with_leaf_at table leaf box now in
      keeps_parts index table new (one_same table new leaf (others_kept table leaf (Some (with_value box now))) (subst (λ cs. AreSame cs (segments_at new leaf)) (sym a.same) (subst (AreSame ss) (sym own) same)))

  -- a window of a store without records has none
  pub spread_settled : (window : Window) → record_count (leaves_of index table) ≡ 0 → records_of (window_of window ss) ≡ 0
  spread_settled window none =
      window_settled window ss (sym (ap records_of a.same) ∙ leaf_settled index table leaf (record { front = a.front; entry = a.entry; back = a.back; is = a.entries; number = a.number }) none)

  -- a key has the room that it has in this leaf
  pub room_in_leaf : (index' : Index) (cuts : List Key) (key : Key) → (respreads : Respreads ss now.segments) → (are : cuts ≡ lows_of now.segments) → IsIndex index' → ((can : CanCut (get_or cuts 0 first_key) cuts index.entries) → index'.entries ≡ with_cuts (get_or cuts 0 first_key) cuts index.entries can)
      → index' ≡ record index { entries = index'.entries } → (holds (cell_in now.segments key) key ≡ true) × (2 ≤ room_of (cell_in now.segments key)) → 2 ≤ room_at (leaves_of index' (with_leaf_at table leaf box now)) key
  unfolding can_cut
  room_in_leaf index' cuts key respreads are ready entries others spread =
      let moved = cut_moved index' cuts respreads are ready entries others in
      let new = with_leaf_at table leaf box now in
      let cell = cell_in_leaf index' new a.front (record a.entry { cuts = cuts }) a.back key now.segments moved.kept (entries (can_cut cuts first_key respreads are)) (ap (segments_at new) (sym a.number) ∙ own) spread.0 in
      omega (arith, ap room_of cell, spread.1)

-- ---- which window

-- rows are counted segment by segment
pub count_rows : (ss : List VersionedRows) → sum (counts_of ss) ≡ length (rows_of ss)
count_rows [] = refl
count_rows (s ∷ ss) = omega (arith, sum_by-cons (λ (n : ℕ). n) (length s.rows) (counts_of ss), count_rows ss, length-append s.rows (rows_of ss))

drop_counts : (n : ℕ) (ss : List VersionedRows) → drop n (counts_of ss) ≡ counts_of (drop n ss)
drop_counts zero ss = refl
drop_counts (suc n) [] = refl
drop_counts (suc n) (s ∷ ss) = drop_counts n ss

-- so many rows the window has
pub window_rows : (window : Window) (ss : List VersionedRows) → rows_in (counts_of ss) window ≡ length (rows_of (window_of window ss))
window_rows window ss =
    ap (λ ns. sum (take window.len ns)) (drop_counts window.first ss) ∙ ap sum (take-map count_of window.len (drop window.first ss)) ∙ count_rows (window_of window ss)

height_is : (height : ℕ) → 1 ≤ height → height < 4 → ((height ≡ 1) ⊎ (height ≡ 2)) ⊎ (height ≡ 3)
height_is zero some few = absurd (omega (arith, some))
height_is (suc zero) some few = inl (inl refl)
height_is (suc (suc zero)) some few = inl (inr refl)
height_is (suc (suc (suc zero))) some few = inr refl
height_is (suc (suc (suc (suc height)))) some few = absurd (omega (arith, few))

-- a window that has room for more has at most 30 rows a segment
pub few_in_window : (need segment : ℕ) (window : Window) (ss : List VersionedRows) → IsSmallest (Fits (counts_of ss) need) segment window → length (rows_of (window_of window ss)) ≤ 30 * window.len
few_in_window need segment window ss smallest = by_height (height_is smallest.height smallest.higher smallest.within)
  where
    few : (h : ℕ) → smallest.height ≡ h → rows_in (counts_of ss) window + need ≤ slice_index UPPER_LIMITS h
    few h e = subst (λ x. rows_in (counts_of ss) window + need ≤ slice_index UPPER_LIMITS x) e smallest.will

    wide : (h : ℕ) → smallest.height ≡ h → window.len ≡ 2 ^ h
    wide h e = ap (λ (w : Window). w.len) smallest.round ∙ ap (λ x. 2 ^ x) e

    by_height : ((smallest.height ≡ 1) ⊎ (smallest.height ≡ 2)) ⊎ (smallest.height ≡ 3) → length (rows_of (window_of window ss)) ≤ 30 * window.len
    by_height (inl (inl one)) = omega (arith, few 1 one, wide 1 one, window_rows window ss)
    by_height (inl (inr two)) = omega (arith, few 2 two, wide 2 two, window_rows window ss)
    by_height (inr three) = omega (arith, few 3 three, wide 3 three, window_rows window ss)

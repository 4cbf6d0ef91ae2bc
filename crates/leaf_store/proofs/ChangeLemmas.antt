-- One cell of the store changes, in the memory of its leaf.
use Rattle.std.proofs.Common.{◌≡◌, ℕ, zero, suc, ◌+◌, ◌<◌, ◌≤◌, List, [], ◌∷◌, ◌++◌, Option, Some, None, length, map, set, get_or, refl, sym, ◌∙◌, ap, ap₂, subst, arith, length-append}
use Rattle.std.specs.Prelude.{true, false, slice_get}
use Rattle.std.specs.Box.{with_value}
use Rattle.std.specs.declared.boxed.Box.{Box}
use Rattle.std.specs.declared.alloc.Global.{Global}
use Rattle.std.proofs.Math.ListN.{length-set}
use Rattle.std.proofs.lemmas.List.{set-get_or}
use Rattle.std.proofs.lemmas.Option.{slice_get_read}
use Rattle.graph_model.specs.declared.row.Key.{Key}
use Rattle.std.specs.List.{AllByRecursion}
use Rattle.graph_model.specs.declared.limits.TheConstants.{SEGMENT_ROWS}
use Rattle.graph_model.specs.Rows.{is_below, is_between, end_key}
use Rattle.leaf_table.specs.VersionSegment.Keyed.{RisesBy}
use Rattle.leaf_table.specs.VersionSegment.Rows.{VersionedRows, IsSegment, IsSameSegment, ChangesKey, PrunesRows, all_records, is_nothing, versions_at}
use Rattle.graph_model.specs.declared.journal.TxnName.{TxnName}
use Rattle.store_model.specs.Stamped.{StampedVersions}
use Rattle.leaf_table.specs.LeafArrayDeclared.leaf.Leaf.{Leaf}
use Rattle.leaf_table.specs.LeafArray.Segments.{lows_of, low_or, high_or, AreChained}
use Rattle.leaf_table.proofs.LeafArray.LeafLemmas.{Follow, follow-of, follow-chained, own-low, no_key}
use Rattle.leaf_table.proofs.LeafArray.PairLemmas.{high-append}
use Rattle.leaf_index.specs.Index.{Index, Entry, end_of}
use Rattle.leaf_table.specs.declared.place.Place.{Place}
use Rattle.leaf_store.specs.declared.store.Pruned.{Pruned}
use Rattle.leaf_store.specs.Leaves.{Leaves, AreLeaves, cell_at, versions_of, spare_at}
use Rattle.leaf_store.specs.Changes.{ChangesCell, ChangesVersions, KeepsCells, PrunesCell}
use Rattle.leaf_store.specs.Table.{IsKept, IsTied, AreTied, IsPlace, segments_or_none, segments_at, part_of, leaves_of}
use Rattle.leaf_store.proofs.CellLemmas.{holds, follow_middle, sound_middle}
use Rattle.leaf_queue.proofs.ListLemmas.{get_set_same}
use Rattle.leaf_store.proofs.ListLemmas.{set_between}
use Rattle.leaf_store.proofs.StoreLemmas.{OtherCell, old_cell, new_cell, changes_cell, spare_kept, fewer_records, keeps_cells}
use Rattle.leaf_store.proofs.TableLemmas.{Table, Located, KeepsOthers, kept_leaves, located, one_entry, others_kept, parts_append, parts_kept, tied_at, tied_front, tied_kept}

-- ---- the memory of a leaf

-- a leaf that has segments has memory
with_memory : (o : Option (Option (Box Leaf Global))) (xs : List VersionedRows) (c : VersionedRows) (ys : List VersionedRows) → segments_or_none o ≡ xs ++ c ∷ ys → (o ≡ None → ⊥) × (o ≡ Some None → ⊥)
with_memory o xs c ys is = ((λ e. some xs (sym (ap segments_or_none e) ∙ is)), (λ e. some xs (sym (ap segments_or_none e) ∙ is)))
  where
    some : (xs : List VersionedRows) → [] ≡ xs ++ c ∷ ys → ⊥
    some [] e = cc
    some (x ∷ xs) e = cc

pub beyond_table : (table : Table) (leaf : ℕ) → (slice_get table leaf ≡ None → ⊥) → leaf < length table
beyond_table [] leaf there = absurd (there refl)
beyond_table (x ∷ table) zero there = omega arith
beyond_table (x ∷ table) (suc leaf) there = omega (arith, beyond_table table leaf there)

module _ (index : Index) (table : Table) (key : Key) (place : Place) (l : Located index table key place) where
  -- a live leaf's number is below the number of leaves
  pub leaf_within : place.leaf < length table
  leaf_within = beyond_table table place.leaf (with_memory (slice_get table place.leaf) l.before l.cell l.behind l.segments).0

  item_there : (item : Option (Box Leaf Global)) → item ≡ get_or table place.leaf item → slice_get table place.leaf ≡ Some item
  item_there item is = slice_get_read table (length table) place.leaf item refl leaf_within is

  -- and it has memory
  pub memory_there : (item : Option (Box Leaf Global)) → item ≡ get_or table place.leaf item → item ≡ None → ⊥
  memory_there item is none =
      (with_memory (slice_get table place.leaf) l.before l.cell l.behind l.segments).1 (item_there item is ∙ ap Some none)

  -- its segments are those that stand by its number
  pub leaf_segments : (item : Option (Box Leaf Global)) (box : Box Leaf Global) (leaf : Leaf) → item ≡ get_or table place.leaf item → item ≡ Some box → leaf ≡ box.value → leaf.segments ≡ l.before ++ l.cell ∷ l.behind
  leaf_segments item box leaf is some value =
      ap (λ (x : Leaf). x.segments) value ∙ sym (ap segments_or_none (item_there item is ∙ ap Some some)) ∙ l.segments

  -- the segment by its number is the cell
  pub cell_read : (leaf : Leaf) (d : VersionedRows) → leaf.segments ≡ l.before ++ l.cell ∷ l.behind → get_or leaf.segments place.segment d ≡ l.cell
  cell_read leaf d are = ap (λ ss. get_or ss place.segment d) are ∙ at l.before place.segment l.at
    where
      at : (xs : List VersionedRows) (i : ℕ) → length xs ≡ i → get_or (xs ++ l.cell ∷ l.behind) i d ≡ l.cell
      at [] zero e = refl
      at [] (suc i) e = absurd (omega (arith, e))
      at (x ∷ xs) zero e = absurd (omega (arith, e))
      at (x ∷ xs) (suc i) e = at xs i (omega (arith, e))

-- ---- segments of which some are others

pub chained_middle : (xs ms ns ys : List VersionedRows) → AreChained (xs ++ (ms ++ ys)) → ((key : Key) → Follow key ms → Follow key ns) → ((other : Key) → high_or ns other ≡ high_or ms other) → AreChained (xs ++ (ns ++ ys))
chained_middle xs ms ns ys chained part high =
    let key = low_or (xs ++ (ms ++ ys)) no_key in
    follow-chained key (xs ++ (ns ++ ys)) (follow_middle key xs ms ns ys (follow-of key (xs ++ (ms ++ ys)) (own-low (xs ++ (ms ++ ys)) no_key) chained) (part (high_or xs key)) high)

pub high_between : (xs ms ns ys : List VersionedRows) (other : Key) → ((other : Key) → high_or ns other ≡ high_or ms other) → high_or (xs ++ (ns ++ ys)) other ≡ high_or (xs ++ (ms ++ ys)) other
high_between xs ms ns ys other high =
    high-append xs (ns ++ ys) other ∙ high-append ns ys (high_or xs other) ∙ ap (high_or ys) (high (high_or xs other)) ∙ sym (high-append ms ys (high_or xs other)) ∙ sym (high-append xs (ms ++ ys) other)

same_lows : (xs : List VersionedRows) (c d : VersionedRows) (ys : List VersionedRows) → d.low ≡ c.low → lows_of (xs ++ d ∷ ys) ≡ lows_of (xs ++ c ∷ ys)
same_lows [] c d ys low = ap (λ k. k ∷ lows_of ys) low
same_lows (x ∷ xs) c d ys low = ap (λ ks. x.low ∷ ks) (same_lows xs c d ys low)

-- a segment with the same fence keys fits where the other stood
tied_changed : (xs : List VersionedRows) (c d : VersionedRows) (ys : List VersionedRows) (e : Entry) (high : Key) → IsTied (xs ++ c ∷ ys) e high → IsSegment d → d.low ≡ c.low → d.high ≡ c.high → IsTied (xs ++ d ∷ ys) e high
tied_changed xs c d ys e high tied sound low ends = record {
  leaf = record {
    segments = omega (arith, length-append xs (d ∷ ys), length-append xs (c ∷ ys), tied.leaf.segments);
    chained = chained_middle xs (c ∷ []) (d ∷ []) ys tied.leaf.chained (λ key follow. (low ∙ follow.0, tt)) (λ other. ends);
  };
  sound = sound_middle xs (c ∷ []) (d ∷ []) ys tied.sound (sound, tt);
  cuts = same_lows xs c d ys low ∙ tied.cuts;
  ends = high_between xs (c ∷ []) (d ∷ []) ys e.low (λ other. ends) ∙ tied.ends;
}

-- ---- one cell changes

-- the memory of the cell's leaf has another segment in its place
abbrev pub with_cell : Table → Place → Box Leaf Global → List VersionedRows → VersionedRows → Table
with_cell table place box segments d = set table place.leaf (Some (with_value box (record { segments = set segments place.segment d })))

-- where the segment is the one that was there, so is the memory
pub with_same_cell : (table : Table) (place : Place) (item : Option (Box Leaf Global)) (box : Box Leaf Global) (leaf : Leaf) (c d : VersionedRows) → item ≡ get_or table place.leaf item → item ≡ Some box → leaf ≡ box.value → d ≡ get_or leaf.segments place.segment c → with_cell table place box leaf.segments d ≡ table
with_same_cell table place item box leaf c d at some value same =
    let segments : set leaf.segments place.segment d ≡ leaf.segments =
    ap (set leaf.segments place.segment) same ∙ set-get_or leaf.segments place.segment c in
    let back : with_value box (record { segments = set leaf.segments place.segment d }) ≡ box =
    ap (λ ss. with_value box (record { segments = ss })) segments ∙ ap (with_value box) value in
    ap (set table place.leaf) (ap Some back ∙ sym some ∙ at) ∙ set-get_or table place.leaf item

pub record ChangedCell (index : Index) (old : Leaves) (new : Table) (key : Key) (c d : VersionedRows) : Type 0 where
  pub kept : IsKept index new
  pub other : OtherCell old (leaves_of index new) c d
  pub held : holds c key ≡ true

module _ (index : Index) (table : Table) (old : Leaves) (key : Key) (place : Place) (view : leaves_of index table ≡ old) (kept : IsKept index table) (is : IsPlace key index.entries place) (below : is_below key end_key ≡ true) where
  here : Located index table key place
  here = located index table key place kept is below

  pub is_within : place.leaf < length table
  is_within = leaf_within index table key place here

  pub has_memory : (item : Option (Box Leaf Global)) → item ≡ get_or table place.leaf item → item ≡ None → ⊥
  has_memory = memory_there index table key place here

  pub segment_within : (item : Option (Box Leaf Global)) (box : Box Leaf Global) (leaf : Leaf) → item ≡ get_or table place.leaf item → item ≡ Some box → leaf ≡ box.value → place.segment < length leaf.segments
  segment_within item box leaf at some value =
      let l = here in
      let are = leaf_segments index table key place l item box leaf at some value in
      omega (arith, ap length are, length-append l.before (l.cell ∷ l.behind), l.at)

  -- the key's cell is the segment by its number, and holds the key
  pub read_cell : (item : Option (Box Leaf Global)) (box : Box Leaf Global) (leaf : Leaf) (d : VersionedRows) → item ≡ get_or table place.leaf item → item ≡ Some box → leaf ≡ box.value → (cell_at old key ≡ get_or leaf.segments place.segment d) × (holds (get_or leaf.segments place.segment d) key ≡ true)
  read_cell item box leaf d at some value =
      let l = here in
      let read = cell_read index table key place l leaf d (leaf_segments index table key place l item box leaf at some value) in
      let same : cell_at old key ≡ l.cell = subst (λ s. cell_at s key ≡ l.cell) view (old_cell (leaves_of index table) (leaves_of index table) l.cell l.cell (itself l) (kept_leaves index table kept) key l.held) in
      (same ∙ sym read, subst (λ c. holds c key ≡ true) (sym read) l.held)
    where
      itself : (l : Located index table key place) → OtherCell (leaves_of index table) (leaves_of index table) l.cell l.cell
      itself l =
          let parts = ap (map (part_of table)) l.entries ∙ parts_append table l.front (l.entry ∷ l.back) in
          let cells = ap (segments_at table) (sym l.leaf) ∙ l.segments in
          record {
            before = map (part_of table) l.front;
            was = part_of table l.entry;
            is = part_of table l.entry;
            behind = map (part_of table) l.back;
            xs = l.before;
            ys = l.behind;
            old_parts = parts;
            new_parts = parts;
            old_cells = cells;
            new_cells = cells;
            low = refl;
            high = refl;
            limit = refl;
            free = refl;
            retired = refl;
          }

  -- another segment with the same fence keys is put in its place
  pub changed_cell : (item : Option (Box Leaf Global)) (box : Box Leaf Global) (leaf : Leaf) (e d : VersionedRows) → item ≡ get_or table place.leaf item → item ≡ Some box → leaf ≡ box.value → IsSegment d
      → d.low ≡ (get_or leaf.segments place.segment e).low → d.high ≡ (get_or leaf.segments place.segment e).high → ChangedCell index old (with_cell table place box leaf.segments d) key (get_or leaf.segments place.segment e) d
  changed_cell item box leaf e d at some value sound low high =
      let l = here in
      let are = leaf_segments index table key place l item box leaf at some value in
      let read = cell_read index table key place l leaf e are in
      let new = with_cell table place box leaf.segments d in
      let others = one_entry index l.front l.entry l.back kept.index_is.once l.entries in
      let keeps : KeepsOthers table new l.entry.leaf = subst (KeepsOthers table new) l.leaf (others_kept table place.leaf (Some (with_value box (record { segments = set leaf.segments place.segment d })))) in
      let cells : segments_at new place.leaf ≡ l.before ++ d ∷ l.behind =
      ap segments_or_none (get_set_same table place.leaf (Some (with_value box (record { segments = set leaf.segments place.segment d }))) is_within)
      ∙ ap (λ ss. set ss place.segment d) are ∙ set_between l.before l.cell d l.behind place.segment l.at in
      let own : segments_at new l.entry.leaf ≡ l.before ++ d ∷ l.behind = ap (segments_at new) (sym l.leaf) ∙ cells in
      let was : segments_at table l.entry.leaf ≡ l.before ++ l.cell ∷ l.behind = ap (segments_at table) (sym l.leaf) ∙ l.segments in
      let low_same : d.low ≡ l.cell.low = low ∙ ap (λ x. x.low) read in
      let high_same : d.high ≡ l.cell.high = high ∙ ap (λ x. x.high) read in
      let tied = subst (AreTied table) l.entries kept.tied in
      let back = tied_at table l.front (l.entry ∷ l.back) tied in
      let one = subst (λ ss. IsTied ss l.entry (end_of l.back)) (sym own) (tied_changed l.before l.cell d l.behind l.entry (end_of l.back) (subst (λ ss. IsTied ss l.entry (end_of l.back)) was back.0) sound low_same high_same) in
      let now : AreTied new (l.front ++ l.entry ∷ l.back) =
      tied_front table new l.entry.leaf l.front (l.entry ∷ l.back) (l.entry ∷ l.back) keeps others.0 tied refl (one, tied_kept table new l.entry.leaf l.back keeps others.1 back.1) in
      let old_parts = ap (λ s. s.parts) (sym view) ∙ ap (map (part_of table)) l.entries ∙ parts_append table l.front (l.entry ∷ l.back) in
      let kept_front = parts_kept table new l.entry.leaf l.front keeps others.0 in
      let kept_back = parts_kept table new l.entry.leaf l.back keeps others.1 in
      let new_parts = ap (map (part_of new)) l.entries ∙ parts_append new l.front (l.entry ∷ l.back) ∙ (λ i. kept_front i ++ part_of new l.entry ∷ kept_back i) in
      record {
        kept = record {
          count = length-set table place.leaf (Some (with_value box (record { segments = set leaf.segments place.segment d }))) ∙ kept.count;
          index_is = kept.index_is;
          tied = subst (AreTied new) (sym l.entries) now;
          begin = kept.begin;
          stamps = kept.stamps;
        };
        other = record {
          before = map (part_of table) l.front;
          was = part_of table l.entry;
          is = part_of new l.entry;
          behind = map (part_of table) l.back;
          xs = l.before;
          ys = l.behind;
          old_parts = old_parts;
          new_parts = new_parts;
          old_cells = was ∙ ap (λ c. l.before ++ c ∷ l.behind) (sym read);
          new_cells = own;
          low = low;
          high = high;
          limit = ap (λ s. s.limit) view;
          free = ap (λ s. s.free) view;
          retired = ap (λ s. s.retired) view;
        };
        held = subst (λ c. holds c key ≡ true) (sym read) l.held;
      }

-- ---- what contracts say of it

module _ (index : Index) (table new : Table) (old : Leaves) (key : Key) (c d : VersionedRows) (view : leaves_of index table ≡ old) (was : IsKept index table) (changed : ChangedCell index old new key c d) where
  are : AreLeaves old
  are = subst AreLeaves view (kept_leaves index table was)

  pub only_cell : ChangesCell old (leaves_of index new) key d
  only_cell = changes_cell old (leaves_of index new) c d changed.other are key (kept_leaves index new changed.kept) changed.held

  pub only_spare : (used : ℕ) → c.spare ≤ d.spare + used → (q : Key) → spare_at old q ≤ spare_at (leaves_of index new) q + used
  only_spare used le = spare_kept old (leaves_of index new) c d changed.other are used (kept_leaves index new changed.kept) le

  same_cell : cell_at old key ≡ c
  same_cell = old_cell old (leaves_of index new) c d changed.other are key changed.held

  -- the versions of the key are changed in its cell
  pub only_versions : (change : StampedVersions → StampedVersions) → ChangesKey c d key (change (versions_at c key)) → ChangesVersions old (leaves_of index new) key (change (versions_of old key))
  only_versions change changes = (d, only_cell, subst (λ x. ChangesKey x d key (change (versions_at x key))) (sym same_cell) changes)

  pub no_spare_used : c.spare ≤ d.spare → (q : Key) → spare_at old q ≤ spare_at (leaves_of index new) q
  no_spare_used le q = omega (arith, only_spare 0 (omega (arith, le)) q)

  pub only_room : IsSameSegment c d → KeepsCells old (leaves_of index new)
  only_room same = keeps_cells old (leaves_of index new) c d changed.other are (kept_leaves index new changed.kept) same

  -- the key's cell now
  pub cell_now : cell_at (leaves_of index new) key ≡ d
  cell_now = new_cell old (leaves_of index new) c d changed.other are key (kept_leaves index new changed.kept) changed.held

  pub only_pruned : (stamps : TxnName → Option ℕ) (horizon : ℕ) (pruned : Pruned) → PrunesRows stamps horizon c d → pruned.records + all_records d.rows ≡ all_records c.rows → pruned.high ≡ c.high → PrunesCell stamps horizon old (leaves_of index new) key pruned
  only_pruned stamps horizon pruned prunes went high = record {
    cell = d;
    changes = only_cell;
    prunes = subst (λ x. PrunesRows stamps horizon x d) (sym same_cell) prunes;
    went = went ∙ sym (ap (λ x. all_records x.rows) same_cell);
    left = fewer_records old (leaves_of index new) c d changed.other are pruned.records went;
    high = high ∙ sym (ap (λ x. x.high) same_cell);
  }

-- a segment of which only the room for records has changed is sound
pub same_sound : (c d : VersionedRows) → IsSegment c → IsSameSegment c d → IsSegment d
same_sound c d sound same = record {
  fences = ap₂ is_below same.high same.low ∙ sound.fences;
  rising = subst (RisesBy (λ row. row.0)) (sym same.rows) sound.rising;
  within = subst (λ rows. AllByRecursion (λ row. is_between d.low d.high row.0 ≡ true) rows) (sym same.rows)
      (subst (λ k. AllByRecursion (λ row. is_between k d.high row.0 ≡ true) c.rows) (sym same.low) (subst (λ k. AllByRecursion (λ row. is_between c.low k row.0 ≡ true) c.rows) (sym same.high) sound.within));
  something = subst (AllByRecursion (λ row. is_nothing row.1 ≡ false)) (sym same.rows) sound.something;
  small = subst (λ rows. length rows ≤ SEGMENT_ROWS) (sym same.rows) sound.small;
}

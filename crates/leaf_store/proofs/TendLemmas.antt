-- The queue, and changes of a store that keep what it says.
use Rattle.std.proofs.Common.{◌≡◌, ◌≢◌, ℕ, ◌<◌, ◌+◌, List, [], ◌∷◌, ◌++◌, Option, Some, length, map, set, get_or, refl, sym, ◌∙◌, ap, subst, arith, inr, inl, append_assoc}
use Rattle.std.specs.Prelude.{◌⊎◌, true}
use Rattle.std.specs.Box.{with_value}
use Rattle.std.specs.List.{AllByRecursion}
use Rattle.std.specs.declared.boxed.Box.{Box}
use Rattle.std.specs.declared.alloc.Global.{Global}
use Rattle.std.proofs.Math.ListN.{length-set}
use Rattle.graph_model.specs.declared.row.Key.{Key}
use Rattle.graph_model.specs.Rows.{is_below, end_key}
use Rattle.leaf_table.specs.VersionSegment.Rows.{VersionedRows}
use Rattle.density_tree.specs.declared.window.Window.{Window}
use Rattle.leaf_table.specs.LeafArrayDeclared.leaf.Leaf.{Leaf}
use Rattle.leaf_table.specs.LeafArray.Leaves.{IsLeaf}
use Rattle.leaf_table.specs.LeafArray.Segments.{counts_of}
use Rattle.leaf_index.specs.Index.{Index, Entry}
use Rattle.leaf_queue.specs.declared.waiting.WaitStage.TheVariants.{Windows}
use Rattle.leaf_queue.proofs.ListLemmas.{get_set_other, get_set_same, same_or_not}
use Rattle.leaf_table.specs.declared.place.Place.{Place}
use Rattle.leaf_store.specs.Leaves.{Leaves, Part}
use Rattle.leaf_store.specs.Merging.{AreSameParts}
use Rattle.leaf_store.specs.Pairs.{MergesLeaf, SpreadsLeaf, Stands}
use Rattle.leaf_store.specs.Ranges.{DividesLeaf}
use Rattle.leaf_store.specs.Table.{AreTied, IsKept, IsPlace, leaves_of, part_of, segments_at, segments_or_none}
use Rattle.leaf_store.specs.Queued.{AreQueued, AwaitsWindows, IsTended, IsThick, IsThickOrQueued, QueuesChange, waiting_with, with_leaf}
use Rattle.leaf_store.proofs.ChangeLemmas.{cell_read, leaf_segments, leaf_within, with_cell}
use Rattle.leaf_store.proofs.ListLemmas.{all_front, set_between}
use Rattle.leaf_store.proofs.RangeLemmas.{moved_over}
use Rattle.leaf_store.proofs.RoomLemmas.{memory_within, stands_leaf, stands_within}
use Rattle.leaf_store.proofs.TableLemmas.{KeepsOthers, OtherLeaves, Table, located, one_entry, other_leaf, others_kept, parts_append}
use Rattle.leaf_store.proofs.QueueLemmas.{OtherParts, Places, Stays, changed_count, now_waits, others_stay, part_with, queued_change, queued_like, queued_middle, same_like, stay_on, thick_or_queued}

-- ---- a live leaf among the others

-- a leaf with its entry
pub record PartEntry (table : Table) (es : List Entry) (front : List Part) (p : Part) (back : List Part) : Type 0 where
  pub before : List Entry
  pub entry : Entry
  pub behind : List Entry
  pub is : es ≡ before ++ entry ∷ behind
  pub front_is : front ≡ map (part_of table) before
  pub part_is : p ≡ part_of table entry
  pub back_is : back ≡ map (part_of table) behind

pub part_entry : (table : Table) (es : List Entry) (front : List Part) (p : Part) (back : List Part) → map (part_of table) es ≡ front ++ p ∷ back → PartEntry table es front p back
part_entry table [] [] p back is = cc
part_entry table [] (f ∷ front) p back is = cc
part_entry table (e ∷ es) [] p back is =
    let first : p ≡ part_of table e = cc in
    let rest : back ≡ map (part_of table) es = cc in
    record { before = []; entry = e; behind = es; is = refl; front_is = refl; part_is = first; back_is = rest }
part_entry table (e ∷ es) (f ∷ front) p back is =
    let first : f ≡ part_of table e = cc in
    let others : map (part_of table) es ≡ front ++ p ∷ back = cc in
    let rest = part_entry table es front p back others in
    record {
      before = e ∷ rest.before;
      entry = rest.entry;
      behind = rest.behind;
      is = ap (λ ys. e ∷ ys) rest.is;
      front_is = λ i. first i ∷ rest.front_is i;
      part_is = rest.part_is;
      back_is = rest.back_is;
    }

other_parts : (table : Table) (leaf : ℕ) (es : List Entry) → OtherLeaves leaf es → OtherParts leaf (map (part_of table) es)
other_parts table leaf [] others = tt
other_parts table leaf (e ∷ es) others = (others.0, other_parts table leaf es others.1)

-- no other leaf has its number, under which its segments stand
pub record IsAlone (table : Table) (front : List Part) (p : Part) (back : List Part) : Type 0 where
  pub before : OtherParts p.leaf front
  pub behind : OtherParts p.leaf back
  pub segments : p.segments ≡ segments_at table p.leaf
  pub within : p.leaf < length table
  pub leaf : IsLeaf (segments_at table p.leaf)

pub alone : (index : Index) (table : Table) → IsKept index table → (front : List Part) (p : Part) (back : List Part) → map (part_of table) index.entries ≡ front ++ p ∷ back → IsAlone table front p back
alone index table kept front p back is =
    let e = part_entry table index.entries front p back is in
    let others = one_entry index e.before e.entry e.behind kept.index_is.once e.is in
    let number : p.leaf ≡ e.entry.leaf = ap (λ (q : Part). q.leaf) e.part_is in
    let s : Stands index.entries p.leaf = record { front = e.before; entry = e.entry; back = e.behind; is = e.is; number = number } in
    record {
      before = subst (λ n. OtherParts n front) (sym number) (subst (OtherParts e.entry.leaf) (sym e.front_is) (other_parts table e.entry.leaf e.before others.0));
      behind = subst (λ n. OtherParts n back) (sym number) (subst (OtherParts e.entry.leaf) (sym e.back_is) (other_parts table e.entry.leaf e.behind others.1));
      segments = ap (λ (q : Part). q.segments) e.part_is ∙ ap (segments_at table) (sym number);
      within = stands_within index table p.leaf kept s;
      leaf = stands_leaf index table p.leaf kept s;
    }

-- ---- a store whose live leaves are thick or wait

pub thin_tended : (index : Index) (table : Table) (places : Places) → IsKept index table → length places ≡ index.leaves → ((leaf : ℕ) → leaf < length table → IsThickOrQueued index table places leaf) → IsTended index table places
thin_tended index table places kept count each = record {
  kept = kept;
  count = count;
  queued = thick_or_queued places (map (part_of table) index.entries) (all [] index.entries refl kept.tied);
}
  where
    live : (front : List Entry) (e : Entry) (es : List Entry) → index.entries ≡ front ++ e ∷ es → IsThickOrQueued index table places e.leaf → IsThick (counts_of (segments_at table e.leaf)) ⊎ AwaitsWindows places (part_of table e)
    live front e es is (inl none) = absurd (none front e es is refl)
    live front e es is (inr has) = has

    all : (front es : List Entry) → index.entries ≡ front ++ es → AreTied table es → AllByRecursion (λ (p : Part). IsThick (counts_of p.segments) ⊎ AwaitsWindows places p) (map (part_of table) es)
    all front [] is tied = tt
    all front (e ∷ es) is tied =
        (live front e es is (each e.leaf (memory_within table e.leaf tied.0.leaf.segments)), all (front ++ e ∷ []) es (is ∙ sym (moved_over front e es)) tied.1)

-- one leaf more is thick or waits
pub one_more_thin : (index : Index) (table : Table) (places places' : Places) (leaf : ℕ) → ((n : ℕ) → n < leaf → IsThickOrQueued index table places n) → ((n : ℕ) → IsThickOrQueued index table places n → IsThickOrQueued index table places' n) → IsThickOrQueued index table places' leaf → (n : ℕ) → n < leaf + 1 → IsThickOrQueued index table places' n
one_more_thin index table places places' leaf before still here n within = elim (same_or_not n leaf) [
  | inl same ↦ subst (IsThickOrQueued index table places') (sym same) here
  | inr other ↦ still n (before n (omega (arith, within, other)))
]

-- where a leaf more waits the others do as before
pub still_thin : (index : Index) (table : Table) (places : Places) (leaf : ℕ) → leaf < length places → (n : ℕ) → IsThickOrQueued index table places n → IsThickOrQueued index table (with_leaf places leaf (segments_at table leaf)) n
still_thin index table places leaf within n (inl none) = inl none
still_thin index table places leaf within n (inr (inl thick)) = inr (inl thick)
still_thin index table places leaf within n (inr (inr waits)) = elim (same_or_not n leaf) [
  | inl same ↦ inr (inr (now_waits places leaf (segments_at table leaf) (record { leaf = n; segments = segments_at table n }) within same (ap (segments_at table) same)))
  | inr other ↦ inr (inr (get_set_other places leaf n (Some (waiting_with Windows leaf (segments_at table leaf))) other ∙ waits))
]

-- and it waits
pub here_thin : (index : Index) (table : Table) (places : Places) (leaf : ℕ) → leaf < length places → IsThickOrQueued index table (with_leaf places leaf (segments_at table leaf)) leaf
here_thin index table places leaf within = inr (inr (now_waits places leaf (segments_at table leaf) (record { leaf = leaf; segments = segments_at table leaf }) within refl refl))

-- ---- some leaves change

module _ (index index' : Index) (table new : Table) (places : Places) (t : IsTended index table places) (kept : IsKept index' new) (leaves : index'.leaves ≡ index.leaves) where
  -- only room for records has changed
  pub tended_same : AreSameParts (map (part_of table) index.entries) (map (part_of new) index'.entries) → IsTended index' new places
  tended_same same = record {
    kept = kept;
    count = t.count ∙ sym leaves;
    queued = queued_like places (map (part_of table) index.entries) (map (part_of new) index'.entries) (same_like _ _ same) t.queued;
  }

  -- the live leaves are the same
  pub tended_entries : map (part_of new) index'.entries ≡ map (part_of table) index.entries → IsTended index' new places
  tended_entries same = record { kept = kept; count = t.count ∙ sym leaves; queued = subst (AreQueued places) (sym same) t.queued }

  within_places : (n : ℕ) → n < length new → n < length places
  within_places n within = omega (arith, within, kept.count, leaves, t.count)

  -- a leaf can be put into the queue
  can_wait : (leaf : ℕ) (front : List Part) (n : Part) (back : List Part) → map (part_of new) index'.entries ≡ front ++ n ∷ back → n.leaf ≡ leaf → IsLeaf (segments_at new leaf) × (leaf < length places)
  can_wait leaf front n back is number =
      let o = alone index' new kept front n back is in
      (subst (λ k. IsLeaf (segments_at new k)) number o.leaf, within_places leaf (subst (λ k. k < length new) number o.within))

  pub spread_can : (window : Window) (leaf : ℕ) (ss : List VersionedRows) → SpreadsLeaf window leaf ss (leaves_of index table) (leaves_of index' new) → IsLeaf (segments_at new leaf) × (leaf < length places)
  spread_can window leaf ss s = can_wait leaf s.front (record s.part { segments = s.segments }) s.back (ap (λ (x : Leaves). x.parts) s.now) s.number

  pub merge_can : (leaf stamp : ℕ) → MergesLeaf leaf (leaves_of index table) (leaves_of index' new) stamp → IsLeaf (segments_at new leaf) × (leaf < length places)
  merge_can leaf stamp m = can_wait leaf m.two.front (record m.two.left { segments = m.two.segments }) m.two.back (ap (λ (x : Leaves). x.parts) m.two.now) m.number

  module _ (leaf other : ℕ) (d : DividesLeaf leaf other (leaves_of index table) (leaves_of index' new)) where
    pub left_can : IsLeaf (segments_at new leaf) × (leaf < length places)
    left_can = can_wait leaf d.front d.left (d.right ∷ d.back) d.now d.left_number

    pub right_can : IsLeaf (segments_at new other) × (other < length places)
    right_can = can_wait other (d.front ++ d.left ∷ []) d.right d.back (d.now ∙ sym (append_assoc d.front (d.left ∷ []) (d.right ∷ d.back))) d.right_number

  -- some leaves become one, which waits
  tended_one : (leaf : ℕ) (front ms : List Part) (n : Part) (back : List Part) → map (part_of table) index.entries ≡ front ++ (ms ++ back) → map (part_of new) index'.entries ≡ front ++ n ∷ back → n.leaf ≡ leaf → IsTended index' new (with_leaf places leaf (segments_at new leaf))
  tended_one leaf front ms n back was is number =
      let ss = segments_at new leaf in
      let x = Some (waiting_with Windows leaf ss) in
      let o = alone index' new kept front n back is in
      let waits = now_waits places leaf ss n (within_places leaf (subst (λ k. k < length new) number o.within)) number (o.segments ∙ ap (segments_at new) number) in
      record {
        kept = kept;
        count = length-set places leaf x ∙ t.count ∙ sym leaves;
        queued = subst (AreQueued (set places leaf x)) (sym is)
            (queued_middle places (set places leaf x) front ms n [] back (waits, tt) (others_stay places leaf x front (subst (λ k. OtherParts k front) number o.before)) (others_stay places leaf x back (subst (λ k. OtherParts k back) number o.behind)) (subst (AreQueued places) was t.queued));
      }

  pub tended_spread : (window : Window) (leaf : ℕ) (ss : List VersionedRows) → SpreadsLeaf window leaf ss (leaves_of index table) (leaves_of index' new) → IsTended index' new (with_leaf places leaf (segments_at new leaf))
  tended_spread window leaf ss s = tended_one leaf s.front (s.part ∷ []) (record s.part { segments = s.segments }) s.back s.was (ap (λ (x : Leaves). x.parts) s.now) s.number

  pub tended_merge : (leaf stamp : ℕ) → MergesLeaf leaf (leaves_of index table) (leaves_of index' new) stamp → IsTended index' new (with_leaf places leaf (segments_at new leaf))
  tended_merge leaf stamp m =
      let two = m.two in
      tended_one leaf two.front (two.left ∷ two.right ∷ []) (record two.left { segments = two.segments }) two.back two.was (ap (λ (x : Leaves). x.parts) two.now) m.number

  -- one becomes two, which both wait
  pub tended_divide : (leaf other : ℕ) → DividesLeaf leaf other (leaves_of index table) (leaves_of index' new) → IsTended index' new (with_leaf (with_leaf places leaf (segments_at new leaf)) other (segments_at new other))
  tended_divide leaf other d =
      let ss = segments_at new leaf in
      let ts = segments_at new other in
      let x = Some (waiting_with Windows leaf ss) in
      let y = Some (waiting_with Windows other ts) in
      let one = set places leaf x in
      let l = alone index' new kept d.front d.left (d.right ∷ d.back) d.now in
      let r = alone index' new kept (d.front ++ d.left ∷ []) d.right d.back (d.now ∙ sym (append_assoc d.front (d.left ∷ []) (d.right ∷ d.back))) in
      let apart : d.left.leaf ≢ other = λ same. l.behind.0 (d.right_number ∙ sym same) in
      let in_one : other < length one = omega (arith, length-set places leaf x, within_places other (subst (λ k. k < length new) d.right_number r.within)) in
      let left = get_set_other one other d.left.leaf y apart ∙ now_waits places leaf ss d.left (within_places leaf (subst (λ k. k < length new) d.left_number l.within)) d.left_number (l.segments ∙ ap (segments_at new) d.left_number) in
      let right = now_waits one other ts d.right in_one d.right_number (r.segments ∙ ap (segments_at new) d.right_number) in
      let stays : (ps : List Part) → OtherParts d.left.leaf ps → OtherParts d.right.leaf ps → AllByRecursion (Stays places (set one other y)) ps =
      λ ps a b. stay_on places one (set one other y) ps (others_stay places leaf x ps (subst (λ k. OtherParts k ps) d.left_number a)) (others_stay one other y ps (subst (λ k. OtherParts k ps) d.right_number b)) in
      record {
        kept = kept;
        count = length-set one other y ∙ length-set places leaf x ∙ t.count ∙ sym leaves;
        queued = subst (AreQueued (set one other y)) (sym d.now)
            (queued_middle places (set one other y) d.front (d.part ∷ []) d.left (d.right ∷ []) d.back (left, (right, tt)) (stays d.front l.before (all_front (λ (p : Part). p.leaf ≢ d.right.leaf) d.front (d.left ∷ []) r.before)) (stays d.back l.behind.1 r.behind)
            (subst (AreQueued places) d.was t.queued));
      }

-- ---- one cell changes

module _ (index : Index) (table : Table) (key : Key) (place : Place) (kept : IsKept index table) (is : IsPlace key index.entries place) (below : is_below key end_key ≡ true) where
  -- the memory of the cell's leaf has another segment in its place
  pub tended_change : (item : Option (Box Leaf Global)) (box : Box Leaf Global) (leaf : Leaf) (e d : VersionedRows) → item ≡ get_or table place.leaf item → item ≡ Some box → leaf ≡ box.value → (places places' : Places) (before rows : ℕ) → before ≡ length (get_or leaf.segments place.segment e).rows → rows ≡ length d.rows → d.low ≡ (get_or leaf.segments place.segment e).low
      → QueuesChange before rows (segments_at (with_cell table place box leaf.segments d) place.leaf) place.leaf places places' → IsKept index (with_cell table place box leaf.segments d) → IsTended index table places → IsTended index (with_cell table place box leaf.segments d) places'
  tended_change item box leaf e d at some value places places' before rows before_is rows_is low_is queues kept' t =
      let l = located index table key place kept is below in
      let are = leaf_segments index table key place l item box leaf at some value in
      let read = cell_read index table key place l leaf e are in
      let new = with_cell table place box leaf.segments d in
      let memory = Some (with_value box (record { segments = set leaf.segments place.segment d })) in
      let keeps : KeepsOthers table new l.entry.leaf = subst (KeepsOthers table new) l.leaf (others_kept table place.leaf memory) in
      let cells : segments_at new place.leaf ≡ l.before ++ d ∷ l.behind =
      ap segments_or_none (get_set_same table place.leaf memory (leaf_within index table key place l)) ∙ ap (λ ss. set ss place.segment d) are ∙ set_between l.before l.cell d l.behind place.segment l.at in
      let front = map (part_of table) l.front in
      let back = map (part_of table) l.back in
      let new_parts = other_leaf index table new l.front l.entry l.entry l.back (l.before ++ d ∷ l.behind) index.entries kept l.entries l.entries refl keeps (ap (segments_at new) (sym l.leaf) ∙ cells) in
      let was_is : segments_at table l.entry.leaf ≡ l.before ++ l.cell ∷ l.behind = ap (segments_at table) (sym l.leaf) ∙ l.segments in
      let old_parts : map (part_of table) index.entries ≡ front ++ part_with l.entry.leaf l.before l.cell l.behind ∷ back =
      ap (map (part_of table)) l.entries ∙ parts_append table l.front (l.entry ∷ l.back) ∙ (λ i. front ++ record { leaf = l.entry.leaf; segments = was_is i } ∷ back) in
      let others = alone index new kept' front (part_with l.entry.leaf l.before d l.behind) back new_parts in
      let within : l.entry.leaf < length places = omega (arith, leaf_within index table key place l, l.leaf, kept.count, t.count) in
      let here = subst (λ n. QueuesChange before rows (l.before ++ d ∷ l.behind) n places places') l.leaf (subst (λ ss. QueuesChange before rows ss place.leaf places places') cells queues) in
      record {
        kept = kept';
        count = changed_count places places' l.entry.leaf before rows (l.before ++ d ∷ l.behind) here ∙ t.count;
        queued = subst (AreQueued places') (sym new_parts)
            (queued_change places places' front l.entry.leaf l.before l.cell d l.behind back before rows within others.before others.behind (low_is ∙ ap (λ (x : VersionedRows). x.low) read) (before_is ∙ ap (λ (x : VersionedRows). length x.rows) read) rows_is here (subst (AreQueued places) old_parts t.queued));
      }

-- Leaves that are looked at: what there is to do with them, and that it is first in key order.
use Rattle.std.proofs.Common.{◌≡◌, ◌≢◌, ℕ, List, [], ◌∷◌, ◌++◌, Option, Some, None, length, map, set, get_or, refl, sym, ◌∙◌, ap, subst, arith, inl, inr, append_assoc}
use Rattle.std.specs.Prelude.{true, false, IfSome, ◌⊎◌}
use Rattle.std.specs.List.{AllByRecursion}
use Rattle.std.specs.declared.boxed.Box.{Box}
use Rattle.std.specs.declared.alloc.Global.{Global}
use Rattle.std.proofs.Math.ListN.{length-set}
use Rattle.std.proofs.lemmas.Option.{slice_get_within}
use Rattle.graph_model.specs.declared.row.Key.{Key}
use Rattle.graph_model.specs.Rows.{is_below, end_key}
use Rattle.graph_model.proofs.KeyLemmas.{below_chain, below_flip, below_self, tied_keys}
use Rattle.density_tree.specs.declared.window.Window.{Window}
use Rattle.leaf_table.specs.VersionSegment.Rows.{VersionedRows}
use Rattle.leaf_table.specs.LeafArrayDeclared.leaf.Leaf.{Leaf}
use Rattle.leaf_table.specs.LeafArray.Segments.{counts_of, low_or}
use Rattle.leaf_table.proofs.LeafArray.LeafLemmas.{Follow}
use Rattle.leaf_index.specs.declared.route.LeafRange.{LeafRange}
use Rattle.leaf_index.specs.Calls.{BeginsBelow, IsLeafRange, IsRangeOf}
use Rattle.leaf_index.specs.Index.{AreCuts, AreRising, BeginAbove, Entry, HaveCuts, Index, NotAbove, end_of}
use Rattle.leaf_queue.specs.declared.waiting.WaitStage.{WaitStage}
use Rattle.leaf_queue.specs.declared.waiting.WaitStage.TheVariants.{Windows, Neighbours}
use Rattle.leaf_queue.specs.declared.waiting.Waiting.{Waiting}
use Rattle.leaf_queue.specs.Queue.{IsFirst, Waits, next_at, next_of}
use Rattle.leaf_store.specs.declared.pair.Pair.{Pair}
use Rattle.leaf_store.specs.declared.sparse.SparseWindow.{SparseWindow}
use Rattle.leaf_store.specs.declared.work.QueuedWork.{QueuedWork}
use Rattle.leaf_store.specs.declared.work.QueuedWork.TheVariants.{Spread}
use Rattle.leaf_store.specs.Leaves.{Part}
use Rattle.leaf_store.specs.Merging.{AreApart, IsApart, IsCompact, IsLeftmostWindow, IsLevel}
use Rattle.leaf_store.specs.Pairs.{IsApartBehind, IsFirstFoundPair, IsFoundPair, IsFoundWindow, IsPairAhead, IsPairBehind, Stands}
use Rattle.leaf_store.specs.Table.{AreTied, IsKept, IsTied, leaves_of, part_of, segments_at}
use Rattle.leaf_store.specs.Queued.{AreQueued, IsApartAhead, IsApartBefore, IsDone, IsDoneAt, IsNextPair, IsNotLive, IsNotLiveAs, IsTended, IsWork, waiting_of}
use Rattle.leaf_store.proofs.CellLemmas.{clash}
use Rattle.gap_segment.proofs.FencedLemmas.{all_append}
use Rattle.leaf_store.proofs.PairLemmas.{first_begin}
use Rattle.leaf_store.proofs.PassLemmas.{PartsBelow, RisingParts, all_level, apart_before, apart_with, front_below, level_before, neighbours_passed, none_waits, windows_passed}
use Rattle.leaf_store.proofs.QueueLemmas.{Places}
use Rattle.leaf_store.proofs.RoomLemmas.{memory_some, stands_cuts, stands_segments, stands_tied}
use Rattle.leaf_store.proofs.TableLemmas.{Table, cuts_at, parts_append, tied_at, tied_follow}
use Rattle.leaf_store.proofs.TendLemmas.{alone, part_entry}
use Rattle.leaf_store.proofs.WalkLemmas.{begin_above, floor_here, head_of}

-- ---- the leaf before

-- an entry that begins below another is none of those from it on
not_behind : (e : Entry) (back others : List Entry) (x : Entry) (rest : List Entry) → AreRising (e ∷ back) → e ∷ back ≡ others ++ x ∷ rest → is_below x.low e.low ≡ true → ⊥
not_behind e back [] x rest rising same below =
    let h = head_of e x back rest same in
    clash (is_below x.low e.low) below (ap (λ (y : Entry). is_below x.low y.low) h.0 ∙ below_self x.low)
not_behind e back (o ∷ others) x rest rising same below =
    let h = head_of e o back (others ++ x ∷ rest) same in
    clash (is_below x.low e.low) below (below_flip e.low x.low (begin_above others x rest e.low (subst (BeginAbove e.low) h.1 rising.0)))

module _ (table : Table) where
  -- where the last entry that begins below a leaf is apart from those behind it, the leaf is apart from the one before
  apart_ahead : (front : List Entry) (e : Entry) (back others : List Entry) (x : Entry) (rest : List Entry) → AreRising (front ++ e ∷ back) → front ++ e ∷ back ≡ others ++ x ∷ rest → is_below x.low e.low ≡ true → AllByRecursion (λ (y : Entry). is_below y.low e.low ≡ false) rest
      → IsApart (part_of table x) (map (part_of table) rest) → IsApartBefore (map (part_of table) front) (part_of table e)
  apart_ahead [] e back others x rest rising same below none apart = tt
  apart_ahead (f ∷ []) e back [] x rest rising same below none apart =
      let h = head_of f x (e ∷ back) rest same in
      subst (λ y. IsApart (part_of table y) (map (part_of table) (e ∷ back))) (sym h.0) (subst (λ ys. IsApart (part_of table x) (map (part_of table) ys)) (sym h.1) apart)
  apart_ahead (f ∷ []) e back (o ∷ others) x rest rising same below none apart =
      absurd (not_behind e back others x rest rising.1 (head_of f o (e ∷ back) (others ++ x ∷ rest) same).1 below)
  apart_ahead (f ∷ g ∷ front) e back [] x rest rising same below none apart =
      let h = head_of f x (g ∷ (front ++ e ∷ back)) rest same in
      let other = subst (AllByRecursion (λ (y : Entry). is_below y.low e.low ≡ false)) (sym h.1) none in
      clash (is_below g.low e.low) (begin_above front e back g.low rising.1.0) other.0
  apart_ahead (f ∷ g ∷ front) e back (o ∷ others) x rest rising same below none apart =
      apart_ahead (g ∷ front) e back others x rest rising.1 (head_of f o (g ∷ (front ++ e ∷ back)) (others ++ x ∷ rest) same).1 below none apart

  -- none begins below the first leaf
  none_ahead : (front : List Entry) (e : Entry) (back : List Entry) → AreRising (front ++ e ∷ back) → AllByRecursion (λ (y : Entry). is_below y.low e.low ≡ false) (front ++ e ∷ back) → IsApartBefore (map (part_of table) front) (part_of table e)
  none_ahead [] e back rising none = tt
  none_ahead (f ∷ front) e back rising none = clash (is_below f.low e.low) (begin_above front e back f.low rising.0) none.0

module _ (index : Index) (table : Table) (kept : IsKept index table) (range : LeafRange) where
  pub first_ahead : AllByRecursion (λ (y : Entry). NotAbove range.low y.low) index.entries → IsApartAhead index.entries table range
  first_ahead none front e back is range_is =
      none_ahead table front e back (subst AreRising is kept.index_is.rising) (subst (AllByRecursion (λ (y : Entry). is_below y.low e.low ≡ false)) is (subst (λ k. AllByRecursion (λ (y : Entry). NotAbove k y.low) index.entries) range_is.low none))

  pub before_ahead : (before : LeafRange) → BeginsBelow range.low index.entries before → IsApartBehind index.entries table before → IsApartAhead index.entries table range
  before_ahead before at apart front e back is range_is =
      let l = at.last in
      apart_ahead table front e back l.front at.entry l.back (subst AreRising is kept.index_is.rising) (sym is ∙ l.is) (subst (λ k. is_below at.entry.low k ≡ true) range_is.low l.below)
      (subst (λ k. AllByRecursion (λ (y : Entry). NotAbove k y.low) l.back) range_is.low l.rest) (apart l.front at.entry l.back l.is at.range_is)

-- ---- where leaves begin

-- a live leaf's segments begin where its entry does
tied_low : (ss : List VersionedRows) (e : Entry) (high : Key) → IsTied ss e high → AreCuts e.low e.cuts high → low_or ss end_key ≡ e.low
tied_low ss e high tied cuts = by_list ss (tied_follow ss e high tied cuts) tied.leaf.segments
  where
    by_list : (ss : List VersionedRows) → Follow e.low ss → length ss ≡ 8 → low_or ss end_key ≡ e.low
    by_list [] follow eight = absurd (omega (arith, eight))
    by_list (x ∷ xs) follow eight = follow.0

-- so leaves rise as their entries do
rising_parts : (table : Table) (es : List Entry) → AreTied table es → HaveCuts es → AreRising es → RisingParts (map (part_of table) es)
rising_parts table [] tied cuts rising = tt
rising_parts table (e ∷ es) tied cuts rising = (above es tied.1 cuts.1 rising.0, rising_parts table es tied.1 cuts.1 rising.1)
  where
    low : low_or (segments_at table e.leaf) end_key ≡ e.low
    low = tied_low (segments_at table e.leaf) e (end_of es) tied.0 cuts.0

    above : (xs : List Entry) → AreTied table xs → HaveCuts xs → BeginAbove e.low xs → AllByRecursion (λ (q : Part). is_below (low_or (segments_at table e.leaf) end_key) (low_or q.segments end_key) ≡ true) (map (part_of table) xs)
    above [] t c a = tt
    above (x ∷ xs) t c a = ((λ i. is_below (low i) (tied_low (segments_at table x.leaf) x (end_of xs) t.0 c.0 i)) ∙ a.0, above xs t.1 c.1 a.1)

parts_below_chain : (a b : Key) (ps : List Part) → is_below a b ≡ true → PartsBelow a ps → PartsBelow b ps
parts_below_chain a b [] below all = tt
parts_below_chain a b (p ∷ ps) below all = (below_chain (low_or p.segments end_key) a b all.0 below, parts_below_chain a b ps below all.1)

module _ (index : Index) (table : Table) (kept : IsKept index table) where
  abbrev parts : List Part
  parts = map (part_of table) index.entries

  rising : RisingParts parts
  rising = rising_parts table index.entries kept.tied kept.index_is.cuts kept.index_is.rising

  entry_low : (front : List Entry) (e : Entry) (back : List Entry) → index.entries ≡ front ++ e ∷ back → low_or (segments_at table e.leaf) end_key ≡ e.low
  entry_low front e back is =
      tied_low (segments_at table e.leaf) e (end_of back) (tied_at table front (e ∷ back) (subst (AreTied table) is kept.tied)).0 (cuts_at front (e ∷ back) (subst HaveCuts is kept.index_is.cuts)).0

  -- ---- the leaf that waits

  module _ (low : Key) (range : LeafRange) (at : IsLeafRange low index.entries range) where
    -- where the leaf that has the key doesn't begin below it, it begins there
    pub live_low : is_below range.low low ≡ false → range.low ≡ low
    live_low above = tied_keys range.low low above (ap (is_below low) at.range_is.low ∙ at.floor.from)

    -- and is the only one that does
    range_of_entry : (front : List Entry) (e : Entry) (back : List Entry) → index.entries ≡ front ++ e ∷ back → e.low ≡ low → IsRangeOf e back range
    range_of_entry front e back is same =
        let f = floor_here index.entries front e back low at.entry is (sym same) kept.index_is.rising at.floor in
        subst (λ x. IsRangeOf x back range) f.entry (subst (λ ys. IsRangeOf at.entry ys range) f.back at.range_is)

    pub other_leaf_there : (waiting : Waiting) → waiting.low ≡ low → range.leaf ≢ waiting.leaf → IsNotLiveAs index.entries waiting
    other_leaf_there waiting same other front e back is number begins = other ((range_of_entry front e back is (begins ∙ same)).leaf ∙ number)

    pub other_low_there : (waiting : Waiting) → waiting.low ≡ low → is_below range.low low ≡ true → IsNotLiveAs index.entries waiting
    other_low_there waiting same below front e back is number begins =
        clash (is_below range.low low) below (ap (λ k. is_below k low) ((range_of_entry front e back is (begins ∙ same)).low ∙ begins ∙ same) ∙ below_self low)

  -- ---- the leaf with a number

  module _ (leaf : ℕ) (item : Option (Box Leaf Global)) (is : item ≡ get_or table leaf item) where
    -- a leaf without memory isn't live
    pub no_memory : item ≡ None → IsNotLive index.entries leaf
    no_memory none front e back at number =
        let s : Stands index.entries leaf = record { front = front; entry = e; back = back; is = at; number = sym number } in
        memory_some table leaf (stands_tied index table leaf kept s).leaf.segments item is none

    -- nor is one where no leaf waits so that begins with its first segment
    pub not_live : (box : Box Leaf Global) (memory : Leaf) → item ≡ Some box → memory ≡ box.value → (waiting : Waiting) (d : VersionedRows) → waiting.leaf ≡ leaf → waiting.low ≡ (get_or memory.segments 0 d).low → IsNotLiveAs index.entries waiting → IsNotLive index.entries leaf
    not_live box memory some value waiting d leaf_is low_is none front e back here number =
        let s : Stands index.entries leaf = record { front = front; entry = e; back = back; is = here; number = sym number } in
        let begin = first_begin (segments_at table leaf) e (end_of back) d (stands_tied index table leaf kept s) (stands_cuts index table leaf kept s) in
        let same = low_is ∙ ap (λ ss. (get_or ss 0 d).low) (sym (stands_segments index table leaf kept s item box memory is some value)) ∙ begin in
        none front e back here (number ∙ sym leaf_is) (sym same)

  -- ---- nothing to do

  module _ (low : Key) (leaf : ℕ) where
    abbrev at_stage : WaitStage → Waiting
    at_stage stage = record { stage = stage; low = low; leaf = leaf }

    idle_windows : IsNotLiveAs index.entries (at_stage Windows) → (front es : List Entry) → index.entries ≡ front ++ es → AllByRecursion (λ (p : Part). waiting_of Windows p ≡ at_stage Windows → IsLevel p.segments) (map (part_of table) es)
    idle_windows none front [] is = tt
    idle_windows none front (e ∷ es) is = (
      (λ same. absurd (none front e es is (ap (λ (w : Waiting). w.leaf) same) (sym (entry_low front e es is) ∙ ap (λ (w : Waiting). w.low) same))),
      idle_windows none (front ++ e ∷ []) es (is ∙ sym (append_assoc front (e ∷ []) es)),
    )

    idle_neighbours : IsNotLiveAs index.entries (at_stage Neighbours) → IsDoneAt Neighbours parts (at_stage Neighbours)
    idle_neighbours none front p back is same =
        let e = part_entry table index.entries front p back is in
        let waits : waiting_of Neighbours (part_of table e.entry) ≡ at_stage Neighbours = ap (waiting_of Neighbours) (sym e.part_is) ∙ same in
        absurd (none e.before e.entry e.behind e.is (ap (λ (w : Waiting). w.leaf) waits) (sym (entry_low e.before e.entry e.behind e.is) ∙ ap (λ (w : Waiting). w.low) waits))

    idle_at : (stage : WaitStage) → IsNotLiveAs index.entries (at_stage stage) → IsDoneAt stage parts (at_stage stage)
    idle_at Windows none = idle_windows none [] index.entries refl
    idle_at Neighbours none = idle_neighbours none

    level_done : IsLevel (segments_at table leaf) → (es : List Entry) → AllByRecursion (λ (p : Part). waiting_of Windows p ≡ at_stage Windows → IsLevel p.segments) (map (part_of table) es)
    level_done level [] = tt
    level_done level (e ∷ es) = ((λ same. subst (λ n. IsLevel (segments_at table n)) (sym (ap (λ (w : Waiting). w.leaf) same)) level), level_done level es)

    apart_done : (range : LeafRange) → IsLeafRange low index.entries range → IsApartAhead index.entries table range → IsApartBehind index.entries table range → IsDoneAt Neighbours parts (at_stage Neighbours)
    apart_done range at ahead behind front p back is same =
        let e = part_entry table index.entries front p back is in
        let begins : e.entry.low ≡ low = sym (entry_low e.before e.entry e.behind e.is) ∙ ap (λ (q : Part). low_or q.segments end_key) (sym e.part_is) ∙ ap (λ (w : Waiting). w.low) same in
        let here = range_of_entry low range at e.before e.entry e.behind e.is begins in
        let before = subst (λ q. IsApartBefore front q) (sym e.part_is) (subst (λ ps. IsApartBefore ps (part_of table e.entry)) (sym e.front_is) (ahead e.before e.entry e.behind e.is here)) in
        (before, subst (λ q. IsApart q back) (sym e.part_is) (subst (λ ps. IsApart (part_of table e.entry) ps) (sym e.back_is) (behind e.before e.entry e.behind e.is here)))

    passed_at : (places : Places) (stage : WaitStage) → Waits places (at_stage stage) → IsDoneAt stage parts (at_stage stage) → AreQueued places parts → AreQueued (set places leaf (next_at stage low leaf)) parts
    passed_at places Windows waits done was = windows_passed places low leaf waits (slice_get_within places leaf (Some (at_stage Windows)) waits) parts done was
    passed_at places Neighbours waits done was = neighbours_passed places low leaf waits parts done [] parts refl was

  -- a leaf that isn't live has nothing to do
  pub idle_done : (waiting : Waiting) → IsNotLiveAs index.entries waiting → IsDone parts waiting
  idle_done waiting none = idle_at waiting.low waiting.leaf waiting.stage none

  -- nor one without a sparse window
  pub windows_done : (waiting : Waiting) → waiting.stage ≡ Windows → IsLevel (segments_at table waiting.leaf) → IsDone parts waiting
  windows_done waiting stage level = subst (λ s. IsDoneAt s parts (record waiting { stage = s })) (sym stage) (level_done waiting.low waiting.leaf level index.entries)

  -- nor one that is apart from its neighbours
  pub neighbours_done : (waiting : Waiting) → waiting.stage ≡ Neighbours → (range : LeafRange) → IsLeafRange waiting.low index.entries range → IsApartAhead index.entries table range → IsApartBehind index.entries table range → IsDone parts waiting
  neighbours_done waiting stage range at ahead behind = subst (λ s. IsDoneAt s parts (record waiting { stage = s })) (sym stage) (apart_done waiting.low waiting.leaf range at ahead behind)

-- a leaf with which nothing is to be done is passed
pub tended_passed : (index : Index) (table : Table) (places : Places) (waiting : Waiting) → IsTended index table places → Waits places waiting → IsDone (map (part_of table) index.entries) waiting → IsTended index table (set places waiting.leaf (next_of waiting))
tended_passed index table places waiting t waits done = record {
  kept = t.kept;
  count = length-set places waiting.leaf (next_of waiting) ∙ t.count;
  queued = passed_at index table t.kept waiting.low waiting.leaf places waiting.stage waits done t.queued;
}

-- where none waits the store is compact
pub all_done : (index : Index) (table : Table) (places : Places) → IsTended index table places → ((w : Waiting) → Waits places w → ⊥) → IsCompact (leaves_of index table)
all_done index table places t none =
    let done = none_waits places (map (part_of table) index.entries) none t.queued in
    record { level = done.0; apart = done.1 }

-- ---- what there is to do

module _ (index : Index) (table : Table) (places : Places) (t : IsTended index table places) (range : LeafRange) where
  module _ (low : Key) (leaf : ℕ) (first : IsFirst places (record { stage = Windows; low = low; leaf = leaf })) (at : IsLeafRange low index.entries range) (same : range.low ≡ low) (number : range.leaf ≡ leaf) where
    begins_there : (p : Part) → p.segments ≡ segments_at table p.leaf → p.leaf ≡ leaf → low_or p.segments end_key ≡ low
    begins_there p segments is =
        ap (λ ss. low_or ss end_key) (segments ∙ ap (segments_at table) (is ∙ sym number ∙ at.range_is.leaf))
        ∙ entry_low index table t.kept at.floor.front at.entry at.floor.back at.floor.is ∙ sym at.range_is.low ∙ same

    first_window : (window : Window) → IsLeftmostWindow (counts_of (segments_at table leaf)) window → IsFoundWindow index table (record { leaf = leaf; window = window })
    first_window window leftmost = record {
      stands = record { front = at.floor.front; entry = at.entry; back = at.floor.back; is = at.floor.is; number = sym number ∙ at.range_is.leaf };
      before = λ front p back is here.
          let below = front_below front p back (subst RisingParts is (rising index table t.kept)) in
          level_before places low leaf first front (p ∷ back) (subst (λ k. PartsBelow k front) (begins_there p (alone index table t.kept front p back is).segments here) below) (subst (AreQueued places) is t.queued);
      leftmost = leftmost;
    }

  module _ (low : Key) (leaf : ℕ) (first : IsFirst places (record { stage = Neighbours; low = low; leaf = leaf })) (same : range.low ≡ low) (pair : Pair) (next : IsNextPair index table range pair) where
    abbrev found : IsFoundPair index table pair
    found = next.found

    parts_are : map (part_of table) index.entries ≡ map (part_of table) found.front ++ part_of table found.left ∷ map (part_of table) (found.right ∷ found.back)
    parts_are = ap (map (part_of table)) found.is ∙ parts_append table found.front (found.left ∷ found.right ∷ found.back)

    front_low : PartsBelow found.left.low (map (part_of table) found.front)
    front_low =
        subst (λ k. PartsBelow k (map (part_of table) found.front)) (entry_low index table t.kept found.front found.left (found.right ∷ found.back) found.is)
        (front_below (map (part_of table) found.front) (part_of table found.left) (map (part_of table) (found.right ∷ found.back)) (subst RisingParts parts_are (rising index table t.kept)))

    by_side : (is_below found.left.low range.low ≡ true) ⊎ ((found.left.low ≡ range.low) × IsApartBefore (map (part_of table) found.front) (part_of table found.left)) → AreApart (map (part_of table) found.front ++ part_of table found.left ∷ [])
    by_side (inl below) =
        let all = map (part_of table) found.front ++ part_of table found.left ∷ [] in
        let left : is_below (low_or (segments_at table found.left.leaf) end_key) low ≡ true = (λ i. is_below (entry_low index table t.kept found.front found.left (found.right ∷ found.back) found.is i) (sym same i)) ∙ below in
        let before = parts_below_chain found.left.low low (map (part_of table) found.front) (ap (is_below found.left.low) (sym same) ∙ below) front_low in
        apart_before places low leaf first all (map (part_of table) (found.right ∷ found.back)) (all_append (λ (p : Part). is_below (low_or p.segments end_key) low ≡ true) (map (part_of table) found.front) (part_of table found.left ∷ []) before (left, tt))
        (subst (AreQueued places) (parts_are ∙ sym (append_assoc (map (part_of table) found.front) (part_of table found.left ∷ []) (map (part_of table) (found.right ∷ found.back)))) t.queued)
    by_side (inr here) =
        apart_with (map (part_of table) found.front) (part_of table found.left)
        (apart_before places low leaf first (map (part_of table) found.front) (part_of table found.left ∷ map (part_of table) (found.right ∷ found.back)) (subst (λ k. PartsBelow k (map (part_of table) found.front)) (here.0 ∙ same) front_low) (subst (AreQueued places) parts_are t.queued)) here.1

    first_pair : IsFirstFoundPair index table pair
    first_pair = record {
      found = found;
      level = all_level places low leaf first (map (part_of table) index.entries) t.queued;
      apart = subst AreApart (sym (parts_append table found.front (found.left ∷ []))) (by_side next.left);
    }

  module _ (waiting : Waiting) (first : IsFirst places waiting) where
    -- the window that is found is the first
    pub window_work : waiting.stage ≡ Windows → IsLeafRange waiting.low index.entries range → range.low ≡ waiting.low → range.leaf ≡ waiting.leaf → (window : Window) → IsLeftmostWindow (counts_of (segments_at table waiting.leaf)) window → IsFoundWindow index table (record { leaf = waiting.leaf; window = window })
    window_work stage at same number window leftmost =
        first_window waiting.low waiting.leaf (subst (λ s. IsFirst places (record waiting { stage = s })) stage first) at same number window leftmost

    -- and so is the pair
    pub pair_work : waiting.stage ≡ Neighbours → range.low ≡ waiting.low → (pair : Pair) → IsNextPair index table range pair → IsFirstFoundPair index table pair
    pair_work stage same pair next = first_pair waiting.low waiting.leaf (subst (λ s. IsFirst places (record waiting { stage = s })) stage first) same pair next

-- ---- pairs

pub if_some_on : {X : Type 0} (P Q : X → Type 0) (x : Option X) → IfSome x P → ((v : X) → P v → Q v) → IfSome x Q
if_some_on P Q None has then = tt
if_some_on P Q (Some v) has then = then v has

-- the pair whose left leaf is the last that begins below the key
pub pair_ahead : (index : Index) (table : Table) (key : Key) (range : LeafRange) (pair : Pair) → BeginsBelow key index.entries range → IsPairBehind index table range pair → IsPairAhead index table key pair
pair_ahead index table key range pair at b = record {
  found = b.found;
  below = ap (λ k. is_below k key) (sym b.range_is.low ∙ at.range_is.low) ∙ at.last.below;
}

-- where the leaf is apart from the one before the pair with the next is the first
pub pair_behind : (index : Index) (table : Table) (range : LeafRange) (pair : Pair) → IsApartAhead index.entries table range → IsPairBehind index table range pair → IsNextPair index table range pair
pair_behind index table range pair ahead b = record {
  found = b.found;
  left = inr (sym b.range_is.low, ahead b.found.front b.found.left (b.found.right ∷ b.found.back) b.found.is b.range_is);
}

pub work_window : (index : Index) (table : Table) (work : QueuedWork) (found : SparseWindow) → work ≡ Spread found → IsWork index table work → IsFoundWindow index table found
work_window index table work found is work_is = subst (IsWork index table) is work_is

-- A leaf that is split, as the whole store sees it.
use Rattle.std.proofs.Common.{◌≡◌, ◌≢◌, ℕ, zero, suc, ◌+◌, ◌-◌, ◌*◌, ◌/◌, ◌<◌, ◌≤◌, List, [], ◌∷◌, ◌++◌, length, map, sum, refl, sym, ◌∙◌, ap, ap₂, subst, arith, length-append, inl, inr}
use Rattle.std.specs.Prelude.{true, Some, None, slice_get, Result, Ok, Err, IfErr}
use Rattle.std.specs.List.{AllByRecursion}
use Rattle.std.proofs.lemmas.List.{append-nil, take_all}
use Rattle.graph_model.specs.declared.limits.TheConstants.{SPLIT_ROWS}
use Rattle.graph_model.specs.declared.row.Key.{Key}
use Rattle.graph_model.specs.Rows.{is_below, end_key, first_key}
use Rattle.leaf_table.specs.VersionSegment.Rows.{VersionedRows, IsSegment}
use Rattle.density_tree.specs.declared.window.Window.{Window}
use Rattle.density_tree.specs.Windows.{Fits, IsSmallestWindow, rows_in, window_round}
use Rattle.density_tree.proofs.DivisionLemmas.{shares_are_all}
use Rattle.leaf_table.specs.LeafArray.Leaves.{Splits, SpreadsWindow}
use Rattle.leaf_table.specs.LeafArray.Segments.{rows_of, counts_of, lows_of, high_or}
use Rattle.leaf_table.proofs.LeafArray.LeafLemmas.{Follow, follow-of, follow-low, follow-both}
use Rattle.leaf_table.proofs.LeafArray.PairLemmas.{rows-append, high-append}
use Rattle.leaf_index.specs.Index.{Index, Entry, AreRising, BeginBelow, HaveCuts, IsIndex, IsTaken, end_of}
use Rattle.txn_manager.specs.declared.config.RoomRefusal.{RoomRefusal}
use Rattle.txn_manager.specs.declared.config.RoomRefusal.TheVariants as refusals
use Rattle.leaf_table.specs.declared.place.Place.{Place}
use Rattle.leaf_store.specs.Leaves.{Part, Leaves, cells_of, cell_in, cell_at, room_at, weight}
use Rattle.leaf_store.specs.Changes.{IsFull, IsRoomRefusal, MovesRows}
use Rattle.leaf_store.specs.Making.{MakesRoom}
use Rattle.leaf_store.specs.Pairs.{HalvesLeaf, SpreadsLeaf}
use Rattle.leaf_store.specs.Ranges.{DividesLeaf, IsLive, IsOutOfLeaves, KeepsLeaves, SplitsLeaf}
use Rattle.leaf_store.specs.Table.{AreStamped, IsKept, IsTied, AreTied, IsPlace, segments_at, part_of, leaves_of}
use Rattle.leaf_store.proofs.CellLemmas.{AreSound, holds, cell_here, few_in, held_in_both, middle_part}
use Rattle.graph_model.proofs.KeyLemmas.{below_chain}
use Rattle.leaf_store.proofs.KeyLemmas.{split_key_within}
use Rattle.leaf_store.proofs.ListLemmas.{all_front, all_back}
use Rattle.gap_segment.proofs.FencedLemmas.{all_append}
use Rattle.leaf_store.proofs.MoveLemmas.{KeepRoom, LeafMoved, cell_in_leaf, few_each, few_keep_room, Respreads, leaf_moved, moves_parts, room_of, same_lows, same_respreads}
use Rattle.leaf_store.proofs.RoomLemmas.{count_rows, window_rows}
use Rattle.leaf_store.proofs.SplitLemmas.{above_from, rising_at, taken_apart}
use Rattle.leaf_store.proofs.StoreLemmas.{cells_in, cells_follow, cells_split, weight_in, weight_one, weight_split, weight_two}
use Rattle.leaf_store.proofs.TableLemmas.{KeepsOthers, OtherLeaves, Table, cuts_at, kept_leaves, located, one_entry, parts_append, tied_at, tied_follow}

-- ---- a live leaf

pub record LiveLeaf (entries : List Entry) (ss : List VersionedRows) (leaf : ℕ) : Type 0 where
  pub live : IsLive entries ss
  pub number : live.entry.leaf ≡ leaf

pub live_at : (index : Index) (table : Table) (key : Key) (place : Place) (entries : List Entry) → IsKept index table → IsPlace key index.entries place → is_below key end_key ≡ true → entries ≡ index.entries → LiveLeaf entries (segments_at table place.leaf) place.leaf
live_at index table key place entries kept is below same =
    let l = located index table key place kept is below in
    let rising = rising_at l.front (l.entry ∷ l.back) (subst AreRising l.entries kept.index_is.rising) in
    record {
      live = record {
        front = l.front;
        entry = l.entry;
        back = l.back;
        is = same ∙ l.entries;
        tied = subst (λ n. IsTied (segments_at table n) l.entry (end_of l.back)) (sym l.leaf) (tied_at table l.front (l.entry ∷ l.back) (subst (AreTied table) l.entries kept.tied)).0;
        cuts = (cuts_at l.front (l.entry ∷ l.back) (subst HaveCuts l.entries kept.index_is.cuts)).0;
        above = λ k until. above_from k l.back rising.1 until;
      };
      number = sym l.leaf;
    }

-- ---- entries with the same memory

abbrev pub SameMemory : Table → Table → List Entry → Type 0
SameMemory table new es = AllByRecursion (λ e. segments_at new e.leaf ≡ segments_at table e.leaf) es

pub parts_same : (table new : Table) (es : List Entry) → SameMemory table new es → map (part_of new) es ≡ map (part_of table) es
parts_same table new [] same = refl
parts_same table new (e ∷ es) same =
    let first : part_of new e ≡ part_of table e = λ i. record { leaf = e.leaf; segments = same.0 i } in
    λ i. first i ∷ parts_same table new es same.1 i

pub tied_same : (table new : Table) (es : List Entry) → SameMemory table new es → AreTied table es → AreTied new es
tied_same table new [] same tied = tt
tied_same table new (e ∷ es) same tied = (subst (λ ss. IsTied ss e (end_of es)) (sym same.0) tied.0, tied_same table new es same.1 tied.1)

pub tied_before : (table new : Table) (front es fs : List Entry) → SameMemory table new front → AreTied table (front ++ es) → end_of fs ≡ end_of es → AreTied new fs → AreTied new (front ++ fs)
tied_before table new [] es fs same tied begin rest = rest
tied_before table new (e ∷ front) es fs same tied begin rest =
    (subst (IsTied (segments_at new e.leaf) e) (begins front) (subst (λ ss. IsTied ss e (end_of (front ++ es))) (sym same.0) tied.0), tied_before table new front es fs same.1 tied.1 begin rest)
  where
    begins : (front : List Entry) → end_of (front ++ es) ≡ end_of (front ++ fs)
    begins [] = sym begin
    begins (f ∷ front) = refl

pub same_memory : (table new : Table) (leaf other : ℕ) (es : List Entry) → ((n : ℕ) → n ≢ leaf → n ≢ other → segments_at new n ≡ segments_at table n) → OtherLeaves leaf es → OtherLeaves other es → SameMemory table new es
same_memory table new leaf other [] keeps apart apart' = tt
same_memory table new leaf other (e ∷ es) keeps apart apart' = (keeps e.leaf apart.0 apart'.0, same_memory table new leaf other es keeps apart.1 apart'.1)

-- ---- rows of eight segments

pub few_rows : (ss : List VersionedRows) → AreSound ss → length (rows_of ss) ≤ 32 * length ss
few_rows [] sound = omega arith
few_rows (s ∷ ss) sound = omega (arith, few_rows ss sound.1, sound.0.small, length-append s.rows (rows_of ss))

pub any_high : (ss : List VersionedRows) (one other : Key) → length ss ≡ 8 → high_or ss one ≡ high_or ss other
any_high [] one other eight = absurd (omega (arith, eight))
any_high (s ∷ ss) one other eight = refl

-- what is below the begin of the entries behind is below the last key
below_end : (key : Key) (back : List Entry) → is_below key (end_of back) ≡ true → BeginBelow end_key back → is_below key end_key ≡ true
below_end key [] below begin = below
below_end key (e ∷ back) below begin = below_chain key e.low end_key below begin.0

-- ---- a split

pub record HalfMoved (index new : Index) (table table' : Table) (key : Key) : Type 0 where
  pub kept : IsKept new table'
  pub moves : MovesRows (leaves_of index table) (leaves_of new table')
  pub room : 2 ≤ room_at (leaves_of new table') key

module _ (index taken new : Index) (table table' : Table) (key : Key) (place : Place) (other : ℕ) (kept : IsKept index table) (is : IsPlace key index.entries place) (below : is_below key end_key ≡ true)
    (takes : index ≡ record taken { free = taken.free ++ other ∷ [] }) (free : IsTaken taken other) (s : SplitsLeaf taken new table table' place.leaf other) (many : 207 ≤ length (rows_of (segments_at table place.leaf))) (ready : IsIndex new) where
  ss : List VersionedRows
  ss = segments_at table place.leaf

  left : List VersionedRows
  left = segments_at table' place.leaf

  right : List VersionedRows
  right = segments_at table' other

  half_entries : index.entries ≡ s.live.front ++ s.live.entry ∷ s.live.back
  half_entries = ap (λ (i : Index). i.entries) takes ∙ s.live.is

  -- the leaves before and behind have the memory that they had
  half_same : SameMemory table table' s.live.front × SameMemory table table' s.live.back
  half_same =
      let live = s.live in
      let apart = one_entry index live.front live.entry live.back kept.index_is.once half_entries in
      let fresh = subst (OtherLeaves other) live.is (taken_apart taken other free) in
      let fresh_back = all_back (λ (e : Entry). e.leaf ≢ other) live.front (live.entry ∷ live.back) fresh in
      let keeps : (n : ℕ) → n ≢ live.entry.leaf → n ≢ other → segments_at table' n ≡ segments_at table n = λ n ne ne'. s.others n (λ e. ne (e ∙ sym s.number)) ne' in (
        same_memory table table' live.entry.leaf other live.front keeps apart.0 (all_front (λ (e : Entry). e.leaf ≢ other) live.front (live.entry ∷ live.back) fresh),
        same_memory table table' live.entry.leaf other live.back keeps apart.1 fresh_back.1,
      )

  pub half_moved : HalfMoved index new table table' key
  unfolding ss left right
  half_moved =
      let live = s.live in
      let splits = s.splits.splits in
      let cut = s.splits.key in
      let entries = half_entries in
      let low = live.entry.low in
      let e1 : Entry = record live.entry { cuts = lows_of left } in
      let e2 : Entry = record { low = cut; leaf = other; cuts = lows_of right } in
      let entries' : new.entries ≡ live.front ++ e1 ∷ e2 ∷ live.back = s.splits.entries in
      let same_front = half_same.0 in
      let same_back = half_same.1 in
      let tied = subst (AreTied table) entries kept.tied in
      let tied_here = tied_at table live.front (live.entry ∷ live.back) tied in
      let left_is : segments_at table' e1.leaf ≡ left = ap (segments_at table') s.number in
      let follow = tied_follow ss live.entry (end_of live.back) live.tied live.cuts in
      let follow_left = follow-of low left (splits.low low ∙ follow-low low ss follow) splits.left_leaf.chained in
      let follow_right = follow-of cut right (splits.right_low cut) splits.right_leaf.chained in
      let one : IsTied left e1 cut = record { leaf = splits.left_leaf; sound = s.left_sound; cuts = refl; ends = splits.left_high low } in
      let two : IsTied right e2 (end_of live.back) = record {
        leaf = splits.right_leaf;
        sound = s.right_sound;
        cuts = refl;
        ends = splits.high cut ∙ any_high ss cut low live.tied.leaf.segments ∙ live.tied.ends;
      } in
      let tied' : AreTied table' (live.front ++ e1 ∷ e2 ∷ live.back) =
      tied_before table table' live.front (live.entry ∷ live.back) (e1 ∷ e2 ∷ live.back) same_front tied refl (subst (λ cs. IsTied cs e1 cut) (sym left_is) one, (two, tied_same table table' live.back same_back tied_here.1)) in
      let kept' : IsKept new table' = record {
        count = s.count ∙ kept.count ∙ ap (λ (i : Index). i.leaves) takes ∙ sym (ap (λ (i : Index). i.leaves) s.index_is);
        index_is = ready;
        tied = subst (AreTied table') (sym entries') tied';
        stamps = subst AreStamped (ap (λ (i : Index). i.retired) takes ∙ sym (ap (λ (i : Index). i.retired) s.index_is)) kept.stamps;
        begin =
            let was = subst (BeginBelow end_key) entries kept.begin in
            let behind = all_back (λ (e : Entry). is_below e.low end_key ≡ true) live.front (live.entry ∷ live.back) was in
            let within = split_key_within low cut ss follow live.tied.sound many splits.key_is in
            subst (BeginBelow end_key) (sym entries')
            (all_append (λ (e : Entry). is_below e.low end_key ≡ true) live.front (e1 ∷ e2 ∷ live.back) (all_front (λ (e : Entry). is_below e.low end_key ≡ true) live.front (live.entry ∷ live.back) was)
            (behind.0, (below_end cut live.back (subst (λ k. is_below cut k ≡ true) live.tied.ends within.1) behind.1, behind.1)));
      } in
      let was = part_of table live.entry in
      let is1 = part_of table' e1 in
      let is2 = part_of table' e2 in
      let before = map (part_of table) live.front in
      let behind = map (part_of table) live.back in
      let old_parts : map (part_of table) index.entries ≡ before ++ (was ∷ [] ++ behind) = ap (map (part_of table)) entries ∙ parts_append table live.front (live.entry ∷ live.back) in
      let new_parts : map (part_of table') new.entries ≡ before ++ (is1 ∷ is2 ∷ [] ++ behind) = ap (map (part_of table')) entries' ∙ parts_append table' live.front (e1 ∷ e2 ∷ live.back) ∙ (λ i. parts_same table table' live.front same_front i ++ is1 ∷ is2 ∷ parts_same table table' live.back same_back i) in
      let was_is : was.segments ++ [] ≡ ss = append-nil was.segments ∙ ap (segments_at table) s.number in
      let is_is : is1.segments ++ (is2.segments ++ []) ≡ left ++ right = ap₂ (λ xs ys. xs ++ ys) left_is (append-nil right) in
      let rows : rows_of (left ++ right) ≡ rows_of ss = rows-append left right ∙ splits.rows in
      let high : (o : Key) → high_or (left ++ right) o ≡ high_or ss o = λ o. high-append left right o ∙ splits.high (high_or left o) ∙ any_high ss (high_or left o) o live.tied.leaf.segments in
      let total : length (rows_of ss) ≤ 256 = omega (arith, few_rows ss live.tied.sound, live.tied.leaf.segments) in
      let few_left = few_each (length (rows_of ss) - length (rows_of ss) / 2) 8 left splits.left_shares (omega arith) (omega (arith, total)) in
      let few_right = few_each (length (rows_of ss) / 2) 8 right splits.right_shares (omega arith) (omega (arith, total)) in
      let few = all_append (λ (c : VersionedRows). length c.rows ≤ 30) left right few_left few_right in
      let limit : new.leaves ≡ index.leaves = ap (λ (i : Index). i.leaves) s.index_is ∙ sym (ap (λ (i : Index). i.leaves) takes) in
      let new_free : new.free ≡ taken.free = ap (λ (i : Index). i.free) s.index_is in
      let old_free : length index.free ≡ length taken.free + 1 = ap (λ (i : Index). length i.free) takes ∙ length-append taken.free (other ∷ []) in
      let follow_both : Follow low (left ++ right) = follow-both low left right follow_left (subst (λ k. Follow k right) (sym (splits.left_high low)) follow_right) in
      let sound_both = all_append IsSegment left right s.left_sound s.right_sound in
      let l = located index table key place kept is below in
      let cells : ss ≡ l.before ++ l.cell ∷ l.behind = l.segments in
      let at : cell_in ss key ≡ l.cell = ap (λ cs. cell_in cs key) cells ∙ cell_here low key l.before l.cell l.behind (subst (Follow low) cells follow) (subst AreSound cells live.tied.sound) l.held in
      let held : holds (cell_in (left ++ right) key) key ≡ true = held_in_both low key ss (left ++ right) follow follow_both live.tied.sound high (subst (λ c. holds c key ≡ true) (sym at) l.held) in
      let all : cells_of (leaves_of new table') ≡ cells_in before ++ ((left ++ right) ++ cells_in behind) = ap cells_in new_parts ∙ cells_split before (is1 ∷ is2 ∷ []) behind ∙ ap (λ cs. cells_in before ++ (cs ++ cells_in behind)) is_is in
      let are' = kept_leaves new table' kept' in
      let now : cell_at (leaves_of new table') key ≡ cell_in (left ++ right) key = ap (λ cs. cell_in cs key) all
      ∙ middle_part first_key key (cells_in before) (left ++ right) (cells_in behind) (subst (Follow first_key) all (cells_follow (leaves_of new table') are')) (subst AreSound all are'.segments) held in
      let left_count : length (rows_of left) ≡ length (rows_of ss) - length (rows_of ss) / 2 = sym (count_rows left) ∙ ap sum splits.left_shares ∙ shares_are_all (length (rows_of ss) - length (rows_of ss) / 2) 8 (omega arith) in
      let right_count : length (rows_of right) ≡ length (rows_of ss) / 2 = sym (count_rows right) ∙ ap sum splits.right_shares ∙ shares_are_all (length (rows_of ss) / 2) 8 (omega arith) in
      let was_count : length (rows_of was.segments) ≡ length (rows_of ss) = ap (λ n. length (rows_of (segments_at table n))) s.number in
      let old_weight = ap weight_in old_parts ∙ weight_split before (was ∷ []) behind in
      let new_weight = ap weight_in new_parts ∙ weight_split before (is1 ∷ is2 ∷ []) behind in
      let idle : SPLIT_ROWS * (new.leaves - 1 - length new.free) ≤ SPLIT_ROWS * (index.leaves - 1 - length index.free) + SPLIT_ROWS = omega (arith, limit, ap length new_free, old_free) in
      record {
        kept = kept';
        moves = moves_parts (leaves_of index table) (leaves_of new table') before (was ∷ []) (is1 ∷ is2 ∷ []) behind old_parts new_parts (kept_leaves index table kept) are'
            (ap rows_of is_is ∙ rows ∙ sym (ap rows_of was_is))
            (λ o. ap (λ cs. high_or cs o) is_is ∙ high o ∙ sym (ap (λ cs. high_or cs o) was_is))
            (subst (KeepRoom (was.segments ++ [])) (sym is_is) (few_keep_room (was.segments ++ []) (left ++ right) few))
            limit
            (omega (arith, old_weight, new_weight, weight_one was, weight_two is1 is2, idle, left_count, right_count, was_count, ap (λ cs. length (rows_of cs)) left_is, many));
        room = omega (arith, few_in 30 key (left ++ right) few, ap room_of now);
      }

  -- as contracts say it
  pub half_divides : DividesLeaf place.leaf other (leaves_of index table) (leaves_of new table')
  unfolding ss left right
  half_divides =
      let live = s.live in
      let entries = half_entries in
      let e1 : Entry = record live.entry { cuts = lows_of left } in
      let e2 : Entry = record { low = s.splits.key; leaf = other; cuts = lows_of right } in
      let same_front = half_same.0 in
      let same_back = half_same.1 in
      let old_parts = ap (map (part_of table)) entries ∙ parts_append table live.front (live.entry ∷ live.back) in
      let new_parts = ap (map (part_of table')) s.splits.entries ∙ parts_append table' live.front (e1 ∷ e2 ∷ live.back) ∙ (λ i. parts_same table table' live.front same_front i ++ part_of table' e1 ∷ part_of table' e2 ∷ parts_same table table' live.back same_back i) in
      record {
        front = map (part_of table) live.front;
        part = part_of table live.entry;
        left = part_of table' e1;
        right = part_of table' e2;
        back = map (part_of table) live.back;
        was = old_parts;
        now = new_parts;
        left_number = s.number;
        right_number = refl;
      }

  -- the rows are divided between both, as contracts say it
  pub half_halves : HalvesLeaf (segments_at table place.leaf) (leaves_of index table) (leaves_of new table')
  unfolding ss left right
  half_halves =
      let live = s.live in
      let e1 : Entry = record live.entry { cuts = lows_of left } in
      let e2 : Entry = record { low = s.splits.key; leaf = other; cuts = lows_of right } in
      let left_is : segments_at table' live.entry.leaf ≡ left = ap (segments_at table') s.number in
      let parts = ap (map (part_of table')) s.splits.entries ∙ parts_append table' live.front (e1 ∷ e2 ∷ live.back)
      ∙ (λ i. parts_same table table' live.front half_same.0 i ++ part_of table' e1 ∷ part_of table' e2 ∷ parts_same table table' live.back half_same.1 i) in
      record {
        front = map (part_of table) live.front;
        part = part_of table live.entry;
        back = map (part_of table) live.back;
        leaf = other;
        low = s.splits.key;
        left = segments_at table' live.entry.leaf;
        right = right;
        was = ap (map (part_of table)) half_entries ∙ parts_append table live.front (live.entry ∷ live.back);
        same = ap (segments_at table) s.number;
        free = ap (λ (i : Index). i.free) takes ∙ ap (λ xs. xs ++ other ∷ []) (sym (ap (λ (i : Index). i.free) s.index_is));
        splits = subst (λ ls. Splits ss ls right s.splits.key) (sym left_is) s.splits.splits;
        now = λ i. record {
          limit = (ap (λ (i : Index). i.leaves) s.index_is ∙ sym (ap (λ (i : Index). i.leaves) takes)) i;
          parts = parts i;
          free = new.free;
          retired = (ap (λ (i : Index). i.retired) s.index_is ∙ sym (ap (λ (i : Index). i.retired) takes)) i;
        };
      }

-- where a split wants memory only the room for records may have changed
pub split_refused : (index : Index) (table table' : Table) (key : Key) (place : Place) → IsKept index table → IsPlace key index.entries place → is_below key end_key ≡ true → KeepsLeaves table table' place.leaf → LeafMoved index index table table'
split_refused index table table' key place kept is below keeps =
    let l = located index table key place kept is below in
    let ss = segments_at table place.leaf in
    let tied = subst (λ n. IsTied (segments_at table n) l.entry (end_of l.back)) (sym l.leaf) (tied_at table l.front (l.entry ∷ l.back) (subst (AreTied table) l.entries kept.tied)).0 in
    leaf_moved index index table table' l.front l.entry l.entry l.back (segments_at table' place.leaf) kept l.entries l.entries refl refl (same_lows ss (segments_at table' place.leaf) keeps.same ∙ tied.cuts) kept.index_is refl refl refl
    keeps.count (subst (KeepsOthers table table') l.leaf keeps.others) (ap (segments_at table') (sym l.leaf))
    (subst (λ cs. Respreads cs (segments_at table' place.leaf)) (ap (segments_at table) l.leaf) (same_respreads ss (segments_at table' place.leaf) tied.leaf tied.sound keeps.same))

-- ---- where no window has room

-- the whole leaf is nearly full
pub full_rows : (ss : List VersionedRows) (need segment : ℕ) → length ss ≡ 8 → segment < 8 → need ≤ 2 → IsSmallestWindow (Fits (counts_of ss) need) segment None → 207 ≤ length (rows_of ss)
full_rows ss need segment eight below few none =
    let whole : Window = record { first = 0; len = 8 } in
    let begin : segment / 8 * 8 ≡ 0 = omega (arith, below) in
    let round : window_round segment 3 ≡ whole = λ i. record { first = begin i; len = 8 } in
    let rows : rows_in (counts_of ss) (window_round segment 3) ≡ length (rows_of ss) = ap (rows_in (counts_of ss)) round ∙ window_rows whole ss ∙ ap (λ cs. length (rows_of cs)) (take_all 8 ss (omega (arith, eight))) in
    let full : rows_in (counts_of ss) (window_round segment 3) + need ≤ 208 → ⊥ = none 3 (omega arith) (omega arith) in
    omega (arith, rows, full, few)

part_there : (xs : List Part) (p : Part) (ys : List Part) → slice_get (xs ++ p ∷ ys) (length xs) ≡ Some p
part_there [] p ys = refl
part_there (x ∷ xs) p ys = part_there xs p ys

cell_there : (xs : List VersionedRows) (c : VersionedRows) (ys : List VersionedRows) (n : ℕ) → length xs ≡ n → slice_get (xs ++ c ∷ ys) n ≡ Some c
cell_there [] c ys zero e = refl
cell_there [] c ys (suc n) e = absurd (omega (arith, e))
cell_there (x ∷ xs) c ys zero e = absurd (omega (arith, e))
cell_there (x ∷ xs) c ys (suc n) e = cell_there xs c ys n (omega (arith, e))

-- the cell of a key, among the segments of its leaf
pub record CellHeld (index : Index) (table : Table) (key : Key) (place : Place) : Type 0 where
  pub front : List Entry
  pub entry : Entry
  pub back : List Entry
  pub entries : index.entries ≡ front ++ entry ∷ back
  pub number : segments_at table entry.leaf ≡ segments_at table place.leaf
  pub eight : length (segments_at table place.leaf) ≡ 8
  pub within : place.segment < 8
  pub holds_cell : slice_get (segments_at table place.leaf) place.segment ≡ Some (cell_at (leaves_of index table) key)

pub cell_held : (index : Index) (table : Table) (key : Key) (place : Place) → IsKept index table → IsPlace key index.entries place → is_below key end_key ≡ true → CellHeld index table key place
cell_held index table key place kept is below =
    let l = located index table key place kept is below in
    let ss = segments_at table place.leaf in
    let tied = subst (λ n. IsTied (segments_at table n) l.entry (end_of l.back)) (sym l.leaf) (tied_at table l.front (l.entry ∷ l.back) (subst (AreTied table) l.entries kept.tied)).0 in
    let same : segments_at table l.entry.leaf ≡ ss = ap (segments_at table) (sym l.leaf) in
    let follow = tied_follow ss l.entry (end_of l.back) tied (cuts_at l.front (l.entry ∷ l.back) (subst HaveCuts l.entries kept.index_is.cuts)).0 in
    let own : cell_in ss key ≡ l.cell = ap (λ cs. cell_in cs key) l.segments ∙ cell_here l.entry.low key l.before l.cell l.behind (subst (Follow l.entry.low) l.segments follow) (subst AreSound l.segments tied.sound) l.held in
    let cell : cell_at (leaves_of index table) key ≡ l.cell = cell_in_leaf index table l.front l.entry l.back key ss kept l.entries same (subst (λ c. holds c key ≡ true) (sym own) l.held) ∙ own in
    record {
      front = l.front;
      entry = l.entry;
      back = l.back;
      entries = l.entries;
      number = same;
      eight = tied.leaf.segments;
      within = l.within;
      holds_cell = ap (λ cs. slice_get cs place.segment) l.segments ∙ cell_there l.before l.cell l.behind place.segment l.at ∙ ap Some (sym cell);
    }

-- and no leaf is free
pub record OutOfLeaves (s : Leaves) (key : Key) (need : ℕ) : Type 0 where
  pub full : IsFull s key need
  pub count : SPLIT_ROWS * s.limit ≤ weight s

pub out_of_leaves : (index : Index) (table : Table) (key : Key) (place : Place) (need : ℕ) → IsKept index table → IsPlace key index.entries place → is_below key end_key ≡ true → need ≤ 2 → IsSmallestWindow (Fits (counts_of (segments_at table place.leaf)) need) place.segment None → index.free ≡ []
    → OutOfLeaves (leaves_of index table) key need
out_of_leaves index table key place need kept is below few none no_free =
    let c = cell_held index table key place kept is below in
    let ss = segments_at table place.leaf in
    let rows = full_rows ss need place.segment c.eight c.within few none in
    let part = part_of table c.entry in
    let before = map (part_of table) c.front in
    let behind = map (part_of table) c.back in
    let parts : map (part_of table) index.entries ≡ before ++ part ∷ behind = ap (map (part_of table)) c.entries ∙ parts_append table c.front (c.entry ∷ c.back) in
    record {
      full = record {
        part = part;
        place = length before;
        segment = place.segment;
        there = ap (λ ps. slice_get ps (length before)) parts ∙ part_there before part behind;
        holds = ap (λ cs. slice_get cs place.segment) c.number ∙ c.holds_cell;
        windows = subst (λ cs. IsSmallestWindow (Fits (counts_of cs) need) place.segment None) (sym c.number) none;
        free = no_free;
      };
      count =
          let all = ap weight_in parts ∙ weight_split before (part ∷ []) behind in
          let count : length (rows_of part.segments) ≡ length (rows_of ss) = ap (λ cs. length (rows_of cs)) c.number in
          let idle : length index.free ≡ 0 = ap length no_free in
          omega (arith, all, weight_one part, count, rows, idle);
    }

-- ---- where room is made

-- by a spread of the window round the cell
pub spread_makes : (index : Index) (table : Table) (key : Key) (place : Place) (need : ℕ) (window : Window) (new : Leaves) → IsKept index table → IsPlace key index.entries place → is_below key end_key ≡ true → IsSmallestWindow (Fits (counts_of (segments_at table place.leaf)) need) place.segment (Some window)
    → SpreadsLeaf window place.leaf (segments_at table place.leaf) (leaves_of index table) new → MakesRoom (leaves_of index table) new key need
spread_makes index table key place need window new kept is below smallest s =
    let c = cell_held index table key place kept is below in
    inl (record {
      at = record { front = s.front; part = s.part; back = s.back; segment = place.segment; is = s.was; holds = ap (λ cs. slice_get cs place.segment) s.same ∙ c.holds_cell };
      window = window;
      segments = s.segments;
      smallest = subst (λ cs. IsSmallestWindow (Fits (counts_of cs) need) place.segment (Some window)) (sym s.same) smallest;
      spreads = subst (λ cs. SpreadsWindow window cs s.segments) (sym s.same) s.spreads;
      now = s.now;
    })

-- or by a split of its leaf
pub split_makes : (index : Index) (table : Table) (key : Key) (place : Place) (need : ℕ) (new : Leaves) → IsKept index table → IsPlace key index.entries place → is_below key end_key ≡ true → IsSmallestWindow (Fits (counts_of (segments_at table place.leaf)) need) place.segment None
    → HalvesLeaf (segments_at table place.leaf) (leaves_of index table) new → MakesRoom (leaves_of index table) new key need
split_makes index table key place need new kept is below none d =
    let c = cell_held index table key place kept is below in
    inr (record {
      at = record { front = d.front; part = d.part; back = d.back; segment = place.segment; is = d.was; holds = ap (λ cs. slice_get cs place.segment) d.same ∙ c.holds_cell };
      leaf = d.leaf;
      low = d.low;
      left = d.left;
      right = d.right;
      windows = subst (λ cs. IsSmallestWindow (Fits (counts_of cs) need) place.segment None) (sym d.same) none;
      free = d.free;
      splits = subst (λ cs. Splits cs d.left d.right d.low) (sym d.same) d.splits;
      now = d.now;
    })

pub room_refused : (index index' : Index) (table table' : Table) (old : Leaves) (key : Key) (place : Place) (need : ℕ) → leaves_of index table ≡ old → IsKept index table → IsPlace key index.entries place → is_below key end_key ≡ true → need ≤ 2 → IsSmallestWindow (Fits (counts_of (segments_at table place.leaf)) need) place.segment None
    → (refusal : RoomRefusal) → IsOutOfLeaves refusal index index' table table' → IsRoomRefusal old key need refusal (leaves_of index' table')
room_refused index index' table table' old key place need view kept is below few none (refusals.Full leaves) out =
    let o = subst (λ s. OutOfLeaves s key need) view (out_of_leaves index table key place need kept is below few none out.1) in
    let limit : leaves ≡ old.limit = out.0 ∙ ap (λ s. s.limit) view in
    (limit, o.full, subst (λ n. SPLIT_ROWS * n ≤ weight old) (sym limit) o.count, (λ i. leaves_of (out.2 i) (out.3 i)) ∙ view)
room_refused index index' table table' old key place need view kept is below few none refusals.NoMemory out = tt

pub if_err : {X E : Type 0} (P Q : E → Type 0) (r : Result X E) → IfErr r P → ((e : E) → P e → Q e) → IfErr r Q
if_err P Q (Ok x) has then = tt
if_err P Q (Err e) has then = then e has

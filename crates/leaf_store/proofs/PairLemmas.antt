-- Two neighbours that become one leaf, as the whole store sees it.
use Rattle.std.proofs.Common.{◌≡◌, ◌≢◌, ℕ, ◌+◌, ◌-◌, ◌*◌, ◌<◌, ◌≤◌, List, [], ◌∷◌, ◌++◌, Option, Some, None, length, map, set, get_or, refl, sym, ◌∙◌, ap, ap₂, subst, arith, inl, inr, length-append}
use Rattle.std.specs.Prelude.{true, false}
use Rattle.std.specs.declared.boxed.Box.{Box}
use Rattle.std.specs.declared.alloc.Global.{Global}
use Rattle.std.proofs.Math.ListN.{length-set}
use Rattle.std.proofs.lemmas.List.{append-nil, map-append}
use Rattle.graph_model.specs.declared.limits.TheConstants.{SPLIT_ROWS}
use Rattle.graph_model.specs.declared.row.Key.{Key}
use Rattle.graph_model.specs.Rows.{is_below, end_key}
use Rattle.graph_model.proofs.KeyLemmas.{below_self}
use Rattle.leaf_table.specs.VersionSegment.Rows.{VersionedRows}
use Rattle.leaf_table.specs.LeafArrayDeclared.leaf.Leaf.{Leaf}
use Rattle.leaf_table.specs.LeafArray.Leaves.{Merges}
use Rattle.leaf_table.specs.LeafArray.Segments.{records_of, rows_of, lows_of, high_or, AreSame}
use Rattle.leaf_table.proofs.LeafArray.LeafLemmas.{Follow, follow-of, follow-low}
use Rattle.leaf_table.proofs.LeafArray.CountLemmas.{same-rows, same-high}
use Rattle.leaf_table.proofs.LeafArray.PairLemmas.{rows-append, high-append}
use Rattle.leaf_index.specs.declared.route.LeafRange.{LeafRange}
use Rattle.leaf_index.specs.declared.route.Retired.{Retired}
use Rattle.leaf_index.specs.Calls.{CanCut, CanDrop, IsLeafRange, IsRangeOf, with_cuts, without_leaf}
use Rattle.leaf_index.specs.Index.{Index, Entry, AreCuts, BeginBelow, IsIndex, HaveCuts, end_of}
use Rattle.leaf_store.specs.declared.pair.Pair.{Pair}
use Rattle.leaf_store.specs.declared.pair.TheConstants.{MERGE_ROWS, STAMPS_END}
use Rattle.leaf_store.specs.Changes.{MovesRows}
use Rattle.leaf_store.specs.Leaves.{record_count}
use Rattle.leaf_store.specs.Merging.{AreApart, AreLevel, Compacts, IsApart, KeepsParts}
use Rattle.leaf_store.specs.Pairs.{AreNeighbours, IsFoundPair, IsPairBehind, MergesEntries, MergesLeaf, Stands}
use Rattle.leaf_store.specs.Table.{AreStamped, AreTied, IsKept, IsTied, leaves_of, part_of, segments_at, segments_or_none}
use Rattle.leaf_store.proofs.CellLemmas.{AreSound, clash}
use Rattle.leaf_store.proofs.HalfLemmas.{SameMemory, any_high, parts_same, same_memory, tied_before, tied_same}
use Rattle.leaf_queue.proofs.ListLemmas.{get_set_other, get_set_same}
use Rattle.leaf_store.proofs.ListLemmas.{all_back, all_front}
use Rattle.gap_segment.proofs.FencedLemmas.{all_append}
use Rattle.leaf_store.proofs.MoveLemmas.{KeepRoom, few_each, few_keep_room, moves_parts, same_append, same_keep_room, same_lows, same_respreads}
use Rattle.leaf_store.proofs.RangeLemmas.{moved_over, same_index}
use Rattle.leaf_store.proofs.SameLemmas.{keeps_parts, leaf_settled, two_same}
use Rattle.leaf_store.proofs.RoomLemmas.{memory_segments, memory_some, memory_within, stands_leaf, stands_within}
use Rattle.leaf_store.proofs.SplitLemmas.{are_cuts}
use Rattle.leaf_store.proofs.StoreLemmas.{cells_in, weight_in, weight_one, weight_split, weight_two}
use Rattle.leaf_store.proofs.TableLemmas.{Table, cuts_at, kept_leaves, one_entry, parts_append, tied_at, tied_follow}
use Rattle.leaf_store.proofs.WalkLemmas.{floor_here}

-- ---- a leaf and the next one

-- the leaf that stands first behind another
pub record NextLeaf (back : List Entry) (next : LeafRange) : Type 0 where
  pub right : Entry
  pub rest : List Entry
  pub is : back ≡ right ∷ rest
  pub number : next.leaf ≡ right.leaf

module _ (index : Index) (table : Table) (kept : IsKept index table) (range : LeafRange) (front : List Entry) (e : Entry) (back : List Entry) (is : index.entries ≡ front ++ e ∷ back) (range_is : IsRangeOf e back range) where
  behind_begin : BeginBelow end_key back
  behind_begin = (all_back (λ (x : Entry). is_below x.low end_key ≡ true) front (e ∷ back) (subst (BeginBelow end_key) is kept.begin)).1

  -- behind a leaf that ends at the last key there is none
  pub last_apart : is_below range.high end_key ≡ false → IsApart (part_of table e) (map (part_of table) back)
  last_apart last = by_list back range_is.high behind_begin
    where
      by_list : (back : List Entry) → range.high ≡ end_of back → BeginBelow end_key back → IsApart (part_of table e) (map (part_of table) back)
      by_list [] high begin = tt
      by_list (r ∷ rest) high begin = clash (is_below range.high end_key) (ap (λ k. is_below k end_key) high ∙ begin.0) last

  pub next_leaf : (next : LeafRange) → is_below range.high end_key ≡ true → IsLeafRange range.high index.entries next → NextLeaf back next
  next_leaf next more at = by_list back range_is.high is
    where
      by_list : (bs : List Entry) → range.high ≡ end_of bs → index.entries ≡ front ++ e ∷ bs → NextLeaf bs next
      by_list [] high are = clash (is_below range.high end_key) more (ap (λ k. is_below k end_key) high ∙ below_self end_key)
      by_list (r ∷ rest) high are =
          let floor = floor_here index.entries (front ++ e ∷ []) r rest range.high at.entry (are ∙ sym (moved_over front e (r ∷ rest))) high kept.index_is.rising at.floor in
          record { right = r; rest = rest; is = refl; number = at.range_is.leaf ∙ ap (λ (x : Entry). x.leaf) floor.entry }

  pub next_apart : (next : LeafRange) → is_below range.high end_key ≡ true → IsLeafRange range.high index.entries next → MERGE_ROWS < length (rows_of (segments_at table range.leaf)) + length (rows_of (segments_at table next.leaf)) → IsApart (part_of table e) (map (part_of table) back)
  next_apart next more at many =
      let n = next_leaf next more at in
      let one : length (rows_of (segments_at table range.leaf)) ≡ length (rows_of (segments_at table e.leaf)) = ap (λ l. length (rows_of (segments_at table l))) range_is.leaf in
      let two : length (rows_of (segments_at table next.leaf)) ≡ length (rows_of (segments_at table n.right.leaf)) = ap (λ l. length (rows_of (segments_at table l))) n.number in
      subst (λ bs. IsApart (part_of table e) (map (part_of table) bs)) (sym n.is) (omega (arith, one, two, many))

  pub pair_found : (next : LeafRange) → is_below range.high end_key ≡ true → IsLeafRange range.high index.entries next → length (rows_of (segments_at table range.leaf)) + length (rows_of (segments_at table next.leaf)) ≤ MERGE_ROWS → (low : Key)
      → IsPairBehind index table range (record { left = range.leaf; right = next.leaf; low = low })
  pair_found next more at few low =
      let n = next_leaf next more at in
      record {
        found = record {
          front = front;
          left = e;
          right = n.right;
          back = n.rest;
          is = is ∙ ap (λ bs. front ++ e ∷ bs) n.is;
          left_is = range_is.leaf;
          right_is = n.number;
          few =
              let one : length (rows_of (segments_at table range.leaf)) ≡ length (rows_of (segments_at table e.leaf)) = ap (λ l. length (rows_of (segments_at table l))) range_is.leaf in
              let two : length (rows_of (segments_at table next.leaf)) ≡ length (rows_of (segments_at table n.right.leaf)) = ap (λ l. length (rows_of (segments_at table l))) n.number in
              omega (arith, one, two, few);
        };
        range_is = subst (λ bs. IsRangeOf e bs range) n.is range_is;
      }

-- ---- entries in the middle become others

pub record MiddleMoved (index index' : Index) (table table' : Table) : Type 0 where
  pub kept : IsKept index' table'
  pub moves : MovesRows (leaves_of index table) (leaves_of index' table')

module _ (index index' : Index) (table table' : Table) (front es es' back : List Entry) (kept : IsKept index table) (ready : IsIndex index') (entries : index.entries ≡ front ++ (es ++ back)) (entries' : index'.entries ≡ front ++ (es' ++ back)) (same_front : SameMemory table table' front) (same_back : SameMemory table table' back) where
  abbrev was : List VersionedRows
  was = cells_in (map (part_of table) es)

  abbrev is : List VersionedRows
  is = cells_in (map (part_of table') es')

  pub middle_moved : (leaves : index'.leaves ≡ index.leaves) (free : length index'.free ≡ length index.free) (count : length table' ≡ length table) → end_of (es' ++ back) ≡ end_of (es ++ back) → AreTied table' (es' ++ back) → BeginBelow end_key es'
      → rows_of is ≡ rows_of was → ((other : Key) → high_or is other ≡ high_or was other) → KeepRoom was is → weight_in (map (part_of table') es') ≤ weight_in (map (part_of table) es) → AreStamped index'.retired → MiddleMoved index index' table table'
  middle_moved leaves free count starts tied' below rows high room weight stamps =
      let tied = subst (AreTied table) entries kept.tied in
      let begin = subst (BeginBelow end_key) entries kept.begin in
      let low_ok = λ (e : Entry). is_below e.low end_key ≡ true in
      let kept' : IsKept index' table' = record {
        count = count ∙ kept.count ∙ sym leaves;
        index_is = ready;
        tied = subst (AreTied table') (sym entries') (tied_before table table' front (es ++ back) (es' ++ back) same_front tied starts tied');
        begin = subst (BeginBelow end_key) (sym entries')
            (all_append low_ok front (es' ++ back) (all_front low_ok front (es ++ back) begin) (all_append low_ok es' back below (all_back low_ok es back (all_back low_ok front (es ++ back) begin))));
        stamps = stamps;
      } in
      let before = map (part_of table) front in
      let behind = map (part_of table) back in
      let ps = map (part_of table) es in
      let qs = map (part_of table') es' in
      let old_parts : map (part_of table) index.entries ≡ before ++ (ps ++ behind) = ap (map (part_of table)) entries ∙ map-append (part_of table) front (es ++ back) ∙ ap (λ ys. before ++ ys) (map-append (part_of table) es back) in
      let new_parts : map (part_of table') index'.entries ≡ before ++ (qs ++ behind) = ap (map (part_of table')) entries' ∙ map-append (part_of table') front (es' ++ back) ∙ ap (λ ys. map (part_of table') front ++ ys) (map-append (part_of table') es' back)
      ∙ (λ i. parts_same table table' front same_front i ++ (qs ++ parts_same table table' back same_back i)) in
      let old_weight = ap weight_in old_parts ∙ weight_split before ps behind in
      let new_weight = ap weight_in new_parts ∙ weight_split before qs behind in
      let idle : SPLIT_ROWS * (index'.leaves - 1 - length index'.free) ≡ SPLIT_ROWS * (index.leaves - 1 - length index.free) = ap₂ (λ l f. SPLIT_ROWS * (l - 1 - f)) leaves free in
      record {
        kept = kept';
        moves = moves_parts (leaves_of index table) (leaves_of index' table') before ps qs behind old_parts new_parts (kept_leaves index table kept) (kept_leaves index' table' kept') rows high room leaves (omega (arith, old_weight, new_weight, weight, idle));
      }

-- ---- the steps of a merge

-- the first of a live leaf's segments begins where the leaf does
pub first_begin : (ss : List VersionedRows) (e : Entry) (high : Key) (d : VersionedRows) → IsTied ss e high → AreCuts e.low e.cuts high → (get_or ss 0 d).low ≡ e.low
first_begin ss e high d tied cuts = by_list ss (tied_follow ss e high tied cuts) tied.leaf.segments
  where
    by_list : (ss : List VersionedRows) → Follow e.low ss → length ss ≡ 8 → (get_or ss 0 d).low ≡ e.low
    by_list [] follow eight = absurd (omega (arith, eight))
    by_list (x ∷ xs) follow eight = follow.0

module _ (old : Index) (ss ts : List VersionedRows) (number stamp : ℕ) (live : AreNeighbours old.entries ss ts number) where
  pub can_drop : (cut : Key) → cut ≡ live.right.low → CanDrop cut old.entries
  can_drop cut at = record { front = live.front; before = live.left; dropped = live.right; back = live.back; is = live.is; same = sym at }

  pub dropped_is : (cut : Key) (at : cut ≡ live.right.low) (mid : List Entry) → ((can : CanDrop cut old.entries) → mid ≡ without_leaf cut old.entries can) → mid ≡ live.front ++ live.left ∷ live.back
  unfolding can_drop
  dropped_is cut at mid drops = drops (can_drop cut at) ∙ moved_over live.front live.left live.back

  module _ (us rest : List VersionedRows) (merges : Merges ss ts us rest) (sound : AreSound us) (cuts : List Key) (are : cuts ≡ lows_of us) (low : Key) (at : low ≡ live.left.low) where
    follow_us : Follow live.left.low us
    follow_us = follow-of live.left.low us (merges.takes.low live.left.low ∙ follow-low live.left.low ss (tied_follow ss live.left live.right.low live.left_tied live.left_cuts)) merges.takes.left_leaf.chained

    pub ends_us : high_or us live.left.low ≡ end_of live.back
    ends_us = merges.takes.high live.left.low ∙ any_high ts live.left.low live.right.low live.right_tied.leaf.segments ∙ live.right_tied.ends

    cuts_us : AreCuts live.left.low (lows_of us) (end_of live.back)
    cuts_us = are_cuts live.left.low (end_of live.back) us follow_us sound merges.takes.left_leaf.segments ends_us

    pub can_cut : (mid : List Entry) → mid ≡ live.front ++ live.left ∷ live.back → CanCut low cuts mid
    can_cut mid is = record {
      front = live.front;
      entry = live.left;
      back = live.back;
      is = is;
      same = sym at;
      fit = subst (λ k. AreCuts k cuts (end_of live.back)) (sym at) (subst (λ ks. AreCuts live.left.low ks (end_of live.back)) (sym are) cuts_us);
    }

    pub merged_is : (dropped retired new : Index) → dropped ≡ record old { entries = dropped.entries } → dropped.entries ≡ live.front ++ live.left ∷ live.back → retired ≡ record dropped { retired = dropped.retired ++ record { leaf = number; stamp = stamp } ∷ [] }
        → ((can : CanCut low cuts retired.entries) → new.entries ≡ with_cuts low cuts retired.entries can) → new ≡ record retired { entries = new.entries } → MergesEntries stamp number old new ss ts us live
    unfolding can_cut
    merged_is dropped retired new first is then set last =
        let mid : retired.entries ≡ live.front ++ live.left ∷ live.back = ap (λ (i : Index). i.entries) then ∙ is in
        record {
          rest = rest;
          merges = merges;
          entries = set (can_cut retired.entries mid) ∙ (λ i. live.front ++ record live.left { cuts = are i } ∷ live.back);
          index_is = same_index new (record old { entries = new.entries; retired = old.retired ++ record { leaf = number; stamp = stamp } ∷ [] })
              (ap (λ (i : Index). i.leaves) last ∙ ap (λ (i : Index). i.leaves) then ∙ ap (λ (i : Index). i.leaves) first)
              refl
              (ap (λ (i : Index). i.free) last ∙ ap (λ (i : Index). i.free) then ∙ ap (λ (i : Index). i.free) first)
              (ap (λ (i : Index). i.retired) last ∙ ap (λ (i : Index). i.retired) then ∙ ap (λ (i : Index). i.retired ++ record { leaf = number; stamp = stamp } ∷ []) first);
        }

-- ---- two live leaves in memory

module _ (index : Index) (table : Table) (pair : Pair) (kept : IsKept index table) (found : IsFoundPair index table pair) where
  pub left_stands : Stands index.entries pair.left
  left_stands = record { front = found.front; entry = found.left; back = found.right ∷ found.back; is = found.is; number = found.left_is }

  pub right_stands : Stands index.entries pair.right
  right_stands = record { front = found.front ++ found.left ∷ []; entry = found.right; back = found.back; is = found.is ∙ sym (moved_over found.front found.left (found.right ∷ found.back)); number = found.right_is }

  tied_here : AreTied table (found.left ∷ found.right ∷ found.back)
  tied_here = tied_at table found.front (found.left ∷ found.right ∷ found.back) (subst (AreTied table) found.is kept.tied)

  cuts_here : HaveCuts (found.left ∷ found.right ∷ found.back)
  cuts_here = cuts_at found.front (found.left ∷ found.right ∷ found.back) (subst HaveCuts found.is kept.index_is.cuts)

  -- both have numbers of their own
  pub pair_apart : pair.left ≢ pair.right
  pair_apart same =
      let others = one_entry index found.front found.left (found.right ∷ found.back) kept.index_is.once found.is in
      others.1.0 (sym found.right_is ∙ sym same ∙ found.left_is)

  pub neighbours : (ss ts : List VersionedRows) → segments_at table pair.left ≡ ss → segments_at table pair.right ≡ ts → AreNeighbours index.entries ss ts pair.right
  neighbours ss ts left right = record {
    front = found.front;
    left = found.left;
    right = found.right;
    back = found.back;
    is = found.is;
    number_is = sym found.right_is;
    left_tied = subst (λ xs. IsTied xs found.left found.right.low) (ap (segments_at table) (sym found.left_is) ∙ left) tied_here.0;
    right_tied = subst (λ xs. IsTied xs found.right (end_of found.back)) (ap (segments_at table) (sym found.right_is) ∙ right) tied_here.1.0;
    left_cuts = cuts_here.0;
    right_cuts = cuts_here.1.0;
  }

  pub few_rows_in : (ss ts : List VersionedRows) → segments_at table pair.left ≡ ss → segments_at table pair.right ≡ ts → length (rows_of ss) + length (rows_of ts) ≤ 104
  few_rows_in ss ts left right =
      let one : length (rows_of (segments_at table found.left.leaf)) ≡ length (rows_of ss) = ap (λ xs. length (rows_of xs)) (ap (segments_at table) (sym found.left_is) ∙ left) in
      let two : length (rows_of (segments_at table found.right.leaf)) ≡ length (rows_of ts) = ap (λ xs. length (rows_of xs)) (ap (segments_at table) (sym found.right_is) ∙ right) in
      omega (arith, one, two, found.few)

  -- a table that differs at both numbers alone
  pub others_same : (table' : Table) → ((n : ℕ) → n ≢ pair.left → n ≢ pair.right → segments_at table' n ≡ segments_at table n) → SameMemory table table' found.front × SameMemory table table' found.back
  unfolding right_stands
  others_same table' keeps =
      let left = one_entry index found.front found.left (found.right ∷ found.back) kept.index_is.once found.is in
      let right = one_entry index (found.front ++ found.left ∷ []) found.right found.back kept.index_is.once right_stands.is in
      let apart = λ (n : ℕ) (ne : n ≢ found.left.leaf) (ne' : n ≢ found.right.leaf). keeps n (λ e. ne (e ∙ found.left_is)) (λ e. ne' (e ∙ found.right_is)) in (
        same_memory table table' found.left.leaf found.right.leaf found.front apart left.0 (all_front (λ (e : Entry). e.leaf ≢ found.right.leaf) found.front (found.left ∷ []) right.0),
        same_memory table table' found.left.leaf found.right.leaf found.back apart left.1.1 right.1,
      )

  -- ---- both become one

  pub pair_merged : (new : Index) (table' : Table) (stamp : ℕ) (us : List VersionedRows) → stamp < STAMPS_END → ((n : ℕ) → n ≢ pair.left → n ≢ pair.right → segments_at table' n ≡ segments_at table n) → segments_at table' pair.left ≡ us → length table' ≡ length table → AreSound us → IsIndex new
      → ((live : AreNeighbours index.entries (segments_at table pair.left) (segments_at table pair.right) pair.right) → MergesEntries stamp pair.right index new (segments_at table pair.left) (segments_at table pair.right) us live)
      → IsKept new table' × Compacts (leaves_of index table) (leaves_of new table') stamp
  unfolding neighbours
  pair_merged new table' stamp us small keeps own count sound ready merges_of =
      let ss = segments_at table pair.left in
      let ts = segments_at table pair.right in
      let live = neighbours ss ts refl refl in
      let m = merges_of live in
      let e : Entry = record found.left { cuts = lows_of us } in
      let same = others_same table' keeps in
      let was_is : segments_at table found.left.leaf ++ (segments_at table found.right.leaf ++ []) ≡ ss ++ ts = ap₂ (λ xs ys. xs ++ ys) (ap (segments_at table) (sym found.left_is)) (append-nil (segments_at table found.right.leaf) ∙ ap (segments_at table) (sym found.right_is)) in
      let now : segments_at table' found.left.leaf ≡ us = ap (segments_at table') (sym found.left_is) ∙ own in
      let is_is : segments_at table' found.left.leaf ++ [] ≡ us = append-nil (segments_at table' found.left.leaf) ∙ now in
      let ends : high_or us found.left.low ≡ end_of found.back = m.merges.takes.high found.left.low ∙ any_high ts found.left.low found.right.low live.right_tied.leaf.segments ∙ live.right_tied.ends in
      let one : IsTied us e (end_of found.back) = record { leaf = m.merges.takes.left_leaf; sound = sound; cuts = refl; ends = ends } in
      let few = few_rows_in ss ts refl refl in
      let each = few_each (length (rows_of ss) + length (rows_of ts)) 8 us m.merges.shares (omega arith) (omega (arith, few)) in
      let rows : rows_of us ≡ rows_of (ss ++ ts) = m.merges.takes.rows ∙ sym (rows-append ss ts) in
      let high : (o : Key) → high_or us o ≡ high_or (ss ++ ts) o = λ o. m.merges.takes.high o ∙ any_high ts o (high_or ss o) live.right_tied.leaf.segments ∙ sym (high-append ss ts o) in
      let total : length (rows_of us) ≡ length (rows_of ss) + length (rows_of ts) = ap length rows ∙ ap length (rows-append ss ts) ∙ length-append (rows_of ss) (rows_of ts) in
      let begin = all_back (λ (x : Entry). is_below x.low end_key ≡ true) found.front (found.left ∷ found.right ∷ found.back) (subst (BeginBelow end_key) found.is kept.begin) in
      let is_part = part_of table' e in
      let count_is : length (rows_of is_part.segments) ≡ length (rows_of us) = ap (λ cs. length (rows_of cs)) now in
      let moved = middle_moved index new table table' found.front (found.left ∷ found.right ∷ []) (e ∷ []) found.back kept ready found.is m.entries same.0 same.1
      (ap (λ (i : Index). i.leaves) m.index_is) (ap (λ (i : Index). length i.free) m.index_is) count refl (subst (λ cs. IsTied cs e (end_of found.back)) (sym now) one, tied_same table table' found.back same.1 tied_here.1.1) (begin.0, tt)
      (ap rows_of is_is ∙ rows ∙ sym (ap rows_of was_is))
      (λ o. ap (λ cs. high_or cs o) is_is ∙ high o ∙ sym (ap (λ cs. high_or cs o) was_is))
      (subst (KeepRoom (segments_at table found.left.leaf ++ (segments_at table found.right.leaf ++ []))) (sym is_is) (few_keep_room (segments_at table found.left.leaf ++ (segments_at table found.right.leaf ++ [])) us each))
      (omega (arith, weight_one is_part, count_is, total, few))
      (subst AreStamped (sym (ap (λ (i : Index). i.retired) m.index_is)) (all_append (λ (r : Retired). r.stamp < STAMPS_END) index.retired (record { leaf = pair.right; stamp = stamp } ∷ []) kept.stamps (small, tt))) in
      (moved.kept, record { moves = moved.moves; free = ap (λ (i : Index). i.free) m.index_is; retired = inr (pair.right, ap (λ (i : Index). i.retired) m.index_is) })

  -- as contracts say it
  pub merges_leaf : AreLevel (map (part_of table) index.entries) → AreApart (map (part_of table) (found.front ++ found.left ∷ [])) → (new : Index) (table' : Table) (stamp : ℕ) (us : List VersionedRows) → ((n : ℕ) → n ≢ pair.left → n ≢ pair.right → segments_at table' n ≡ segments_at table n) → segments_at table' pair.left ≡ us
      → ((live : AreNeighbours index.entries (segments_at table pair.left) (segments_at table pair.right) pair.right) → MergesEntries stamp pair.right index new (segments_at table pair.left) (segments_at table pair.right) us live) → MergesLeaf pair.left (leaves_of index table) (leaves_of new table') stamp
  unfolding neighbours
  merges_leaf level apart new table' stamp us keeps own merges_of =
      let m = merges_of (neighbours (segments_at table pair.left) (segments_at table pair.right) refl refl) in
      let same = others_same table' keeps in
      let left_is : segments_at table' found.left.leaf ≡ us = ap (segments_at table') (sym found.left_is) ∙ own in
      let parts : map (part_of table') new.entries ≡ map (part_of table) found.front ++ record { leaf = found.left.leaf; segments = us } ∷ map (part_of table) found.back =
      ap (map (part_of table')) m.entries ∙ map-append (part_of table') found.front (record found.left { cuts = lows_of us } ∷ found.back)
      ∙ (λ i. parts_same table table' found.front same.0 i ++ record { leaf = found.left.leaf; segments = left_is i } ∷ parts_same table table' found.back same.1 i) in
      let retired : new.retired ≡ index.retired ++ record { leaf = found.right.leaf; stamp = stamp } ∷ [] = ap (λ (i : Index). i.retired) m.index_is ∙ ap (λ n. index.retired ++ record { leaf = n; stamp = stamp } ∷ []) found.right_is in
      record {
        two = record {
          front = map (part_of table) found.front;
          left = part_of table found.left;
          right = part_of table found.right;
          back = map (part_of table) found.back;
          segments = us;
          rest = m.rest;
          was = ap (map (part_of table)) found.is ∙ map-append (part_of table) found.front (found.left ∷ found.right ∷ found.back);
          now = λ i. record { limit = ap (λ (x : Index). x.leaves) m.index_is i; parts = parts i; free = ap (λ (x : Index). x.free) m.index_is i; retired = retired i };
          level = level;
          first = record { apart = subst AreApart (parts_append table found.front (found.left ∷ [])) apart; few = found.few };
          merges = subst (λ n. Merges (segments_at table n) (segments_at table found.right.leaf) us m.rest) found.left_is (subst (λ n. Merges (segments_at table pair.left) (segments_at table n) us m.rest) found.right_is m.merges);
        };
        number = sym found.left_is;
      }

  -- ---- or only room for records has changed

  pub pair_stays : (new : Index) (table' : Table) → new ≡ index → ((n : ℕ) → n ≢ pair.left → n ≢ pair.right → segments_at table' n ≡ segments_at table n) → AreSame (segments_at table pair.left) (segments_at table' pair.left) → AreSame (segments_at table pair.right) (segments_at table' pair.right) → KeepsParts (leaves_of index table) (leaves_of new table')
  pair_stays new table' is keeps left right =
      subst (λ (i : Index). KeepsParts (leaves_of index table) (leaves_of i table')) (sym is) (keeps_parts index table table' (two_same table table' pair.left pair.right keeps left right))

  -- two leaves of a store without records have none
  pub pair_settled : record_count (leaves_of index table) ≡ 0 → (records_of (segments_at table pair.left) ≡ 0) × (records_of (segments_at table pair.right) ≡ 0)
  pair_settled none = (leaf_settled index table pair.left left_stands none, leaf_settled index table pair.right right_stands none)

  tied_again : (ms ns : List VersionedRows) (e : Entry) (high : Key) → IsTied ms e high → AreSame ms ns → IsTied ns e high
  tied_again ms ns e high tied same =
      let respreads = same_respreads ms ns tied.leaf tied.sound same in
      record { leaf = respreads.leaf; sound = respreads.sound; cuts = same_lows ms ns same ∙ tied.cuts; ends = respreads.high e.low ∙ tied.ends }

  pub pair_kept : (new : Index) (table' : Table) (stamp : ℕ) → new ≡ index → ((n : ℕ) → n ≢ pair.left → n ≢ pair.right → segments_at table' n ≡ segments_at table n) → length table' ≡ length table → AreSame (segments_at table pair.left) (segments_at table' pair.left) → AreSame (segments_at table pair.right) (segments_at table' pair.right)
      → IsKept new table' × Compacts (leaves_of index table) (leaves_of new table') stamp
  pair_kept new table' stamp is keeps count left right =
      let same = others_same table' keeps in
      let one : AreSame (segments_at table found.left.leaf) (segments_at table' found.left.leaf) = subst (λ n. AreSame (segments_at table n) (segments_at table' n)) found.left_is left in
      let two : AreSame (segments_at table found.right.leaf) (segments_at table' found.right.leaf) = subst (λ n. AreSame (segments_at table n) (segments_at table' n)) found.right_is right in
      let both = same_append (segments_at table found.left.leaf) (segments_at table' found.left.leaf) (segments_at table found.right.leaf ++ []) (segments_at table' found.right.leaf ++ []) one (same_append (segments_at table found.right.leaf) (segments_at table' found.right.leaf) [] [] two tt) in
      let begin = all_back (λ (x : Entry). is_below x.low end_key ≡ true) found.front (found.left ∷ found.right ∷ found.back) (subst (BeginBelow end_key) found.is kept.begin) in
      let was1 = part_of table found.left in
      let was2 = part_of table found.right in
      let is1 = part_of table' found.left in
      let is2 = part_of table' found.right in
      let moved = middle_moved index new table table' found.front (found.left ∷ found.right ∷ []) (found.left ∷ found.right ∷ []) found.back kept (subst IsIndex (sym is) kept.index_is) found.is (ap (λ (i : Index). i.entries) is ∙ found.is) same.0 same.1
      (ap (λ (i : Index). i.leaves) is) (ap (λ (i : Index). length i.free) is) count refl
      (tied_again _ _ found.left found.right.low tied_here.0 one, (tied_again _ _ found.right (end_of found.back) tied_here.1.0 two, tied_same table table' found.back same.1 tied_here.1.1)) (begin.0, (begin.1.0, tt))
      (same-rows _ _ both) (same-high _ _ both) (same_keep_room _ _ both)
      (omega (arith, weight_two is1 is2, weight_two was1 was2, ap length (same-rows _ _ one), ap length (same-rows _ _ two)))
      (subst AreStamped (sym (ap (λ (i : Index). i.retired) is)) kept.stamps) in
      (moved.kept, record { moves = moved.moves; free = ap (λ (i : Index). i.free) is; retired = inl (ap (λ (i : Index). i.retired) is) })

  -- ---- their memory, while the right one's is out of the table

  module _ (dest : Option (Box Leaf Global)) where
    abbrev mid : Table
    mid = set table pair.right dest

    mid_left : segments_at mid pair.left ≡ segments_at table pair.left
    mid_left = ap segments_or_none (get_set_other table pair.right pair.left dest pair_apart)

    mid_eight : length (segments_at mid pair.left) ≡ 8
    unfolding left_stands
    mid_eight = ap length mid_left ∙ (stands_leaf index table pair.left kept left_stands).segments

    pub mid_within : pair.left < length mid
    mid_within = memory_within mid pair.left mid_eight

    pub mid_some : (item : Option (Box Leaf Global)) → item ≡ get_or mid pair.left item → item ≡ None → ⊥
    mid_some = memory_some mid pair.left mid_eight

    pub left_read : (item : Option (Box Leaf Global)) (box : Box Leaf Global) (now : Leaf) → item ≡ get_or mid pair.left item → item ≡ Some box → now ≡ box.value → segments_at table pair.left ≡ now.segments
    left_read item box now is some value = sym mid_left ∙ memory_segments mid pair.left mid_eight item box now is some value

    module _ (x : Option (Box Leaf Global)) where
      abbrev after : Table
      after = set mid pair.left x

      pub after_others : (n : ℕ) → n ≢ pair.left → n ≢ pair.right → segments_at after n ≡ segments_at table n
      after_others n ne ne' = ap segments_or_none (get_set_other mid pair.left n x ne ∙ get_set_other table pair.right n dest ne')

      pub after_left : segments_at after pair.left ≡ segments_or_none (Some x)
      after_left = ap segments_or_none (get_set_same mid pair.left x mid_within)

      pub after_count : length after ≡ length table
      after_count = length-set mid pair.left x ∙ length-set table pair.right dest

      right_within : pair.right < length after
      right_within = omega (arith, stands_within index table pair.right kept right_stands, after_count)

      pub right_there : pair.right < length after
      right_there = right_within

      module _ (y : Option (Box Leaf Global)) where
        abbrev again : Table
        again = set after pair.right y

        pub again_others : (n : ℕ) → n ≢ pair.left → n ≢ pair.right → segments_at again n ≡ segments_at table n
        again_others n ne ne' = ap segments_or_none (get_set_other after pair.right n y ne') ∙ after_others n ne ne'

        pub again_left : segments_at again pair.left ≡ segments_or_none (Some x)
        again_left = ap segments_or_none (get_set_other after pair.right pair.left y pair_apart) ∙ after_left

        pub again_right : segments_at again pair.right ≡ segments_or_none (Some y)
        again_right = ap segments_or_none (get_set_same after pair.right y right_within)

        pub again_count : length again ≡ length table
        again_count = length-set after pair.right y ∙ after_count

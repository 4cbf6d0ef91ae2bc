-- The range of a live leaf: the cells that have one of its keys are the leaf's.
use Rattle.std.proofs.Common.{◌≡◌, List, [], ◌∷◌, ◌++◌, Some, length, map, refl, sym, ◌∙◌, ap, subst}
use Rattle.std.specs.Prelude.{true, false, slice_get}
use Rattle.std.proofs.lemmas.List.{append_assoc}
use Rattle.graph_model.specs.declared.row.Key.{Key}
use Rattle.graph_model.specs.Rows.{is_below, is_between, first_key, end_key}
use Rattle.graph_model.proofs.KeyLemmas.{between_of, between_parts}
use Rattle.leaf_table.specs.VersionSegment.Rows.{VersionedRows, IsSegment}
use Rattle.leaf_table.specs.LeafArray.Segments.{low_or, high_or}
use Rattle.leaf_table.proofs.LeafArray.LeafLemmas.{Follow, follow-behind, follow-low}
use Rattle.leaf_table.proofs.LeafArray.PairLemmas.{any-high, any-low, high-append}
use Rattle.leaf_index.specs.Calls.{IsLeafRange}
use Rattle.leaf_index.specs.Index.{Index, Entry, HaveCuts, end_of}
use Rattle.leaf_index.specs.declared.route.LeafRange.{LeafRange}
use Rattle.leaf_store.specs.Leaves.{Leaves, AreLeaves, HasWholeCells, IsLeafOf, cell_in, cells_of}
use Rattle.leaf_store.specs.Table.{IsKept, IsTied, AreTied, leaves_of, part_of, segments_at}
use Rattle.leaf_store.proofs.CellLemmas.{AreSound, covered, held_from, held_until, holds, low_to_high, middle_part}
use Rattle.leaf_store.proofs.ListLemmas.{all_back}
use Rattle.leaf_store.proofs.StoreLemmas.{cells_follow, cells_in, cells_split}
use Rattle.leaf_store.proofs.TableLemmas.{Table, cuts_at, end_above, kept_leaves, parts_append, tied_at, tied_follow}

-- the item behind the first part
get_between : {X : Type 0} (xs : List X) (x : X) (ys : List X) → slice_get (xs ++ x ∷ ys) (length xs) ≡ Some x
get_between [] x ys = refl
get_between (y ∷ xs) x ys = get_between xs x ys

-- a cell among some of the cells lies between where these begin and where they end
whole_between : (key low high : Key) (xs ms ys : List VersionedRows) → Follow key (xs ++ (ms ++ ys)) → AreSound (xs ++ (ms ++ ys)) → Follow low ms → AreSound ms → high_or ms low ≡ high
    → (p q : Key) → is_between low high p ≡ true → holds (cell_in (xs ++ (ms ++ ys)) p) q ≡ true → is_between low high q ≡ true
whole_between key low high xs ms ys follow sound part_follow part_sound ends p q within shared =
    let from = between_parts low high p within in
    let there = covered low p ms part_follow from.0 (subst (λ k. is_below p k ≡ true) (sym ends) from.1) in
    let held = subst (λ c. holds c q ≡ true) (middle_part key p xs ms ys follow sound there) shared in
    between_of low high q (held_from low p q ms part_follow part_sound held) (subst (λ k. is_below q k ≡ true) ends (held_until low p q ms part_follow part_sound held))

module _ (index : Index) (table : Table) (s : Leaves) (key : Key) (range : LeafRange) (view : leaves_of index table ≡ s) (kept : IsKept index table) (is : IsLeafRange key index.entries range) where
  abbrev front : List Entry
  front = is.floor.front

  abbrev back : List Entry
  back = is.floor.back

  abbrev segments : List VersionedRows
  segments = segments_at table is.entry.leaf

  tied : IsTied segments is.entry (end_of back)
  tied = (tied_at table front (is.entry ∷ back) (subst (AreTied table) is.floor.is kept.tied)).0

  follow : Follow is.entry.low segments
  follow = tied_follow segments is.entry (end_of back) tied (cuts_at front (is.entry ∷ back) (subst HaveCuts is.floor.is kept.index_is.cuts)).0

  parts_are : s.parts ≡ map (part_of table) front ++ part_of table is.entry ∷ map (part_of table) back
  parts_are = ap (λ x. x.parts) (sym view) ∙ ap (map (part_of table)) is.floor.is ∙ parts_append table front (is.entry ∷ back)

  cells_are : cells_of s ≡ cells_in (map (part_of table) front) ++ (segments ++ cells_in (map (part_of table) back))
  cells_are =
      ap cells_in parts_are ∙ cells_split (map (part_of table) front) (part_of table is.entry ∷ []) (map (part_of table) back)
      ∙ ap (λ cs. cells_in (map (part_of table) front) ++ cs) (append_assoc segments [] (cells_in (map (part_of table) back)))

  low_is : low_or segments end_key ≡ range.low
  low_is = any-low segments 7 end_key is.entry.low tied.leaf.segments ∙ follow-low is.entry.low segments follow ∙ sym is.range_is.low

  high_is : high_or segments is.entry.low ≡ range.high
  high_is = tied.ends ∙ sym is.range_is.high

  pub range_holds : is_below key end_key ≡ true → is_between range.low range.high key ≡ true
  range_holds below =
      between_of range.low range.high key (subst (λ k. is_below key k ≡ false) (sym is.range_is.low) is.floor.from)
      (subst (λ k. is_below key k ≡ true) (sym is.range_is.high) (end_above key back is.floor.above below))

  pub range_of_leaf : IsLeafOf s range.low range.high
  range_of_leaf = record {
    place = length (map (part_of table) front);
    part = part_of table is.entry;
    there = ap (λ ps. slice_get ps (length (map (part_of table) front))) parts_are ∙ get_between (map (part_of table) front) (part_of table is.entry) (map (part_of table) back);
    begins = low_is;
    ends = any-high segments 7 first_key is.entry.low tied.leaf.segments ∙ high_is;
  }

  pub range_whole : HasWholeCells s range.low range.high
  range_whole p q within shared =
      let are : AreLeaves s = subst AreLeaves view (kept_leaves index table kept) in
      whole_between first_key range.low range.high (cells_in (map (part_of table) front)) segments (cells_in (map (part_of table) back))
      (subst (Follow first_key) cells_are (cells_follow s are)) (subst AreSound cells_are are.segments)
      (subst (λ k. Follow k segments) (sym is.range_is.low) follow) tied.sound (ap (high_or segments) is.range_is.low ∙ high_is)
      p q within (subst (λ cs. holds (cell_in cs p) q ≡ true) cells_are shared)

  -- it ends at the last key at the latest
  pub range_within : is_below end_key range.high ≡ false
  range_within =
      let are : AreLeaves s = subst AreLeaves view (kept_leaves index table kept) in
      let before = cells_in (map (part_of table) front) in
      let behind = cells_in (map (part_of table) back) in
      let end_is : high_or segments (high_or before first_key) ≡ range.high = any-high segments 7 (high_or before first_key) is.entry.low tied.leaf.segments ∙ high_is in
      let follows = follow-behind (high_or before first_key) segments behind (follow-behind first_key before (segments ++ behind) (subst (Follow first_key) cells_are (cells_follow s are))) in
      let sound = all_back IsSegment segments behind (all_back IsSegment before (segments ++ behind) (subst AreSound cells_are are.segments)) in
      let last : high_or behind range.high ≡ end_key =
      ap (high_or behind) (sym end_is) ∙ sym (high-append segments behind (high_or before first_key)) ∙ sym (high-append before (segments ++ behind) first_key) ∙ ap (λ cs. high_or cs first_key) (sym cells_are) ∙ are.high in
      subst (λ k. is_below k range.high ≡ false) last (low_to_high range.high behind (subst (λ k. Follow k behind) end_is follows) sound)

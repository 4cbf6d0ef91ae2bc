-- The first leaf and the last one of a store that begins with rows.
use Rattle.std.proofs.Common.{◌≡◌, ℕ, ◌+◌, ◌-◌, ◌*◌, ◌≤◌, List, [], ◌∷◌, ◌++◌, Some, length, map, take, drop, set, slice_index_or, min, cond, refl, sym, ◌∙◌, ap, subst, arith}
use Rattle.std.specs.Prelude.{true, false, sum, ◌<◌, Ok, Err, IfErr}
use Rattle.std.specs.Result.{IsErrAnd}
use Rattle.std.specs.declared.result.Result.{Result}
use Rattle.std.specs.List.{AllByRecursion}
use Rattle.std.specs.Ordering.{eq_by_cmp}
use Rattle.std.specs.FinMap.Entries.{find}
use Rattle.std.specs.declared.boxed.Box.{Box}
use Rattle.std.specs.declared.alloc.Global.{Global}
use Rattle.std.proofs.Math.ListN.{length-set}
use Rattle.std.proofs.Math.Seq.{take-append_seam, drop-append_seam}
use Rattle.std.proofs.lemmas.List.{append-nil, length-map, length-drop, length-take, take-append-drop, take_all}
use Rattle.std.proofs.lemmas.List.FromFn.{length-range_with_len}
use Rattle.graph_model.specs.declared.limits.TheConstants.{SPLIT_ROWS}
use Rattle.graph_model.specs.declared.row.Key.{Key}
use Rattle.graph_model.specs.declared.row.Row.{Row}
use Rattle.graph_model.specs.Rows.{key_cmp, is_below, first_key, end_key}
use Rattle.graph_model.proofs.KeyLemmas.{between_of}
use Rattle.gap_segment.specs.Fenced.{AreAbove, AreSorted, AreWithin, first_key_or}
use Rattle.leaf_table.specs.VersionSegment.Rows.{VersionedRows, or_nothing, settled_row, settled_rows}
use Rattle.leaf_table.specs.LeafArrayDeclared.leaf.Leaf.{Leaf}
use Rattle.leaf_table.specs.LeafArray.Leaves.{IsLeaf}
use Rattle.leaf_table.specs.LeafArray.Segments.{rows_of, lows_of, low_or}
use Rattle.leaf_table.proofs.LeafArray.LeafLemmas.{follow-of}
use Rattle.leaf_index.specs.Index.{Index, Entry, AreCuts, BeginBelow, IsIndex, end_of}
use Rattle.leaf_index.specs.Calls.{CanCut, new_index, with_cuts}
use Rattle.txn_manager.specs.declared.config.RoomRefusal.{RoomRefusal}
use Rattle.txn_manager.specs.declared.config.RoomRefusal.TheVariants as refusals
use Rattle.leaf_store.specs.Leaves.{weight_of_part}
use Rattle.leaf_store.specs.Changes.{AreFilled, AreRising, IsFillRefusal, settled_at}
use Rattle.leaf_table.specs.Settled.{AreLeavesFrom, AreSettled, IsLeafFrom, next_key}
use Rattle.leaf_table.specs.declared.load.LoadLeaves.{LoadLeaves}
use Rattle.leaf_store.specs.Fill.{AreInOrder, AreNext, AreTiedTo, IsFilling, IsFillStop, IsFirst, IsLoad, IsNext, begin_of, parts_in}
use Rattle.leaf_store.specs.Table.{AreStamped, IsKept, IsTied, AreTied, part_of, segments_or_none, segments_at, leaves_of}
use Rattle.leaf_store.proofs.CellLemmas.{AreSound}
use Rattle.leaf_table.proofs.FillLemmas.{NextRows, cut_until, next_rows, sorted_front, within_front}
use Rattle.leaf_store.proofs.FillStepLemmas.{sorted_further}
use Rattle.leaf_store.proofs.KeyLemmas.{from_above}
use Rattle.leaf_queue.proofs.ListLemmas.{get_set_same}
use Rattle.leaf_store.proofs.SplitLemmas.{are_cuts}
use Rattle.leaf_store.proofs.StoreLemmas.{cells_in, none_below_first, versions_in_rows, weight_one}
use Rattle.leaf_store.proofs.TableLemmas.{Table, kept_leaves}

-- so many leaves behind the first are laid, whatever rows they have
pub record LaidSoFar (rows : ℕ) (begun : Index) (before behind : Table) (left place : ℕ) (index : Index) (table made : Table) : Type 0 where
  pub filling : (all : List Row) → AreNext all rows begun before behind → IsFilling all (min (208 + 208 * place) (length all)) index table
  pub leaves : (all : List Row) → AreNext all rows begun before behind → AreLeavesFrom all 208 made
  pub left_is : left ≡ rows - 208 * place
  pub limit : index.leaves ≡ begun.leaves

-- ---- rows in rising order

pub rising_sorted : (rows : List Row) → AreRising rows → AreSorted rows
rising_sorted [] rising = tt
rising_sorted (r ∷ rows) rising = (rising.1, rising_sorted rows rising.2)

pub rising_within : (rows : List Row) → AreRising rows → AreWithin first_key end_key rows
rising_within [] rising = tt
rising_within (r ∷ rows) rising = (between_of first_key end_key r.key (none_below_first r.key) rising.0, rising_within rows rising.2)

-- ---- the first leaf

pub record FirstRows (rows here behind : List Row) : Type 0 where
  pub low : is_below first_key (first_key_or behind end_key) ≡ true
  pub sorted : AreSorted here
  pub within : AreWithin first_key (first_key_or behind end_key) here
  pub until : is_below end_key (first_key_or behind end_key) ≡ false

-- a row stands before the first one behind
first_below : (here behind : List Row) → AreSorted (here ++ behind) → 1 ≤ length here → is_below first_key (first_key_or behind end_key) ≡ true
first_below here [] sorted some = refl
first_below [] (b ∷ behind) sorted some = absurd (omega (arith, some))
first_below (r ∷ here) (b ∷ behind) sorted some = from_above first_key r.key b.key (none_below_first r.key) (at here sorted.0)
  where
    at : (xs : List Row) → AreAbove r.key (xs ++ b ∷ behind) → is_below r.key b.key ≡ true
    at [] above = above.0
    at (x ∷ xs) above = at xs above.1

pub first_rows : (rows here behind : List Row) → AreSorted rows → AreWithin first_key end_key rows → rows ≡ here ++ behind → (1 ≤ length behind → 1 ≤ length here) → FirstRows rows here behind
first_rows rows here behind sorted within is some =
    let sorted' = subst AreSorted is sorted in
    let within' = subst (AreWithin first_key end_key) is within in
    record {
      low = low behind sorted' some;
      sorted = sorted_front here behind sorted';
      within = within_front first_key end_key here behind sorted' within';
      until = cut_until first_key end_key here behind within';
    }
  where
    low : (behind : List Row) → AreSorted (here ++ behind) → (1 ≤ length behind → 1 ≤ length here) → is_below first_key (first_key_or behind end_key) ≡ true
    low [] sorted some = refl
    low (b ∷ behind) sorted some = first_below here (b ∷ behind) sorted (some (omega arith))

-- ---- as many rows as a leaf takes

abbrev pub front_of : List Row → List Row
front_of rows = take (min (length rows) 208) rows

abbrev pub behind_of : List Row → List Row
behind_of rows = drop (min (length rows) 208) rows

pub in_two : (rows : List Row) → rows ≡ front_of rows ++ behind_of rows
in_two rows = sym (take-append-drop (min (length rows) 208) rows)

pub front_length : (rows : List Row) → length (front_of rows) ≡ min (length rows) 208
front_length rows = omega (arith, length-take (min (length rows) 208) rows)

pub first_of : (rows : List Row) → AreInOrder rows → FirstRows rows (front_of rows) (behind_of rows)
first_of rows order =
    first_rows rows (front_of rows) (behind_of rows) order.sorted order.within (in_two rows) (λ some. omega (arith, some, length-drop (min (length rows) 208) rows, front_length rows))

pub next_of : (rows : List Row) (at : ℕ) → AreInOrder rows → at < length rows → NextRows rows (front_of (drop at rows)) (behind_of (drop at rows)) at
next_of rows at order more =
    next_rows rows (front_of (drop at rows)) (behind_of (drop at rows)) at order.sorted order.within (omega (arith, more)) (in_two (drop at rows)) (omega (arith, more, length-drop at rows, front_length (drop at rows)))

-- a leaf begins where its first segment does
pub first_low : (ss : List VersionedRows) (low : Key) (d : VersionedRows) → low_or ss low ≡ low → 1 ≤ length ss → (slice_index_or ss 0 d).low ≡ low
first_low [] low d begins some = absurd (omega (arith, some))
first_low (s ∷ ss) low d begins some = begins

pub in_order : (rows : List Row) → AreRising rows → AreInOrder rows
in_order rows rising = record { sorted = rising_sorted rows rising; within = rising_within rows rising }

-- the leaf that comes next, while there is one
pub next_leaf : (rows : ℕ) (begun : Index) (before behind : Table) (left place : ℕ) (index : Index) (table made : Table) → LaidSoFar rows begun before behind left place index table made → 0 < left → (memory : Box Leaf Global)
    → (all : List Row) → AreNext all rows begun before behind → (AreLeavesFrom all 208 made → IsLeafFrom all (208 + 208 * place) memory) → IsNext all (208 + 208 * place) index table memory
next_leaf rows begun before behind left place index table made laid some memory all next leaf =
    let more : 208 + 208 * place < length all = omega (arith, laid.left_is, next.left_is, some) in
    let here : min (208 + 208 * place) (length all) ≡ 208 + 208 * place = omega (arith, more) in
    record { order = next.order; filling = subst (λ n. IsFilling all n index table) here (laid.filling all next); more = more; leaf = leaf (laid.leaves all next) }

pub stop_before : (refusal : RoomRefusal) (index begun : Index) (rows : List Row) → index.leaves ≡ begun.leaves → IsFillStop refusal index rows → IsFillStop refusal begun rows
stop_before (refusals.Full n) index begun rows limit stop = (stop.0 ∙ limit, omega (arith, stop.1, limit))
stop_before refusals.NoMemory index begun rows limit stop = tt

-- ---- the leaves of a load

pub first_leaf : (rows : List Row) (made : LoadLeaves) → IsLoad rows made → IsFirst rows made.first
first_leaf rows made is = record { order = in_order rows is.rising; leaf = is.leaves.first }

pub next_leaves : (rows : List Row) (made : LoadLeaves) (left : ℕ) (index : Index) (table : Table) → IsLoad rows made → left ≡ made.rows - 208 → IsFilling rows (min 208 (length rows)) index table → AreNext rows left index table made.rest.items
next_leaves rows made left index table is count filling = record { order = in_order rows is.rising; filling = filling; left_is = omega (arith, count, is.leaves.count); leaves = is.leaves.rest }

module _ (rows here behind : List Row) (index new : Index) (table table' : Table) (memory : Box Leaf Global) (cuts : List Key) (first : FirstRows rows here behind) (all : rows ≡ here ++ behind) (is_new : index ≡ new_index (length table)) (some : 1 ≤ length table)
    (settled : AreSettled first_key (first_key_or behind end_key) here memory.value.segments) (is_leaf : IsLeaf memory.value.segments) (sound : AreSound memory.value.segments) (are : cuts ≡ lows_of memory.value.segments) where
  abbrev high : Key
  high = first_key_or behind end_key

  abbrev ss : List VersionedRows
  ss = memory.value.segments

  pub first_cuts : CanCut first_key cuts index.entries
  first_cuts =
      let c = are_cuts first_key high ss (follow-of first_key ss settled.begins settled.chained) sound is_leaf.segments settled.ends in
      record {
        front = [];
        entry = record { low = first_key; leaf = 0; cuts = first_key ∷ end_key ∷ end_key ∷ end_key ∷ end_key ∷ end_key ∷ end_key ∷ end_key ∷ [] };
        back = [];
        is = ap (λ (i : Index). i.entries) is_new;
        same = refl;
        fit = subst (λ ks. AreCuts first_key ks end_key) (sym are) (record { count = c.count; begin = c.begin; sorted = sorted_further (lows_of ss) high end_key c.sorted first.until });
      }

  module _ (set_cuts : (can : CanCut first_key cuts index.entries) → new.entries ≡ with_cuts first_key cuts index.entries can) (others : new ≡ record index { entries = new.entries }) (ready : IsIndex new) (is : table' ≡ set table 0 (Some memory)) (few : length here ≡ min (length rows) 208) where
    abbrev e : Entry
    e = record { low = first_key; leaf = 0; cuts = cuts }

    one_entry_is : new.entries ≡ e ∷ []
    unfolding first_cuts
    one_entry_is = set_cuts first_cuts

    here_is : segments_at table' 0 ≡ ss
    here_is = ap (λ t. segments_at t 0) is ∙ ap segments_or_none (get_set_same table 0 (Some memory) (omega (arith, some)))

    pub first_filling : IsFilling rows (length here) new table'
    first_filling =
        let leaves : new.leaves ≡ length table = ap (λ (i : Index). i.leaves) others ∙ ap (λ (i : Index). i.leaves) is_new in
        let rest : drop (length here) rows ≡ behind = ap (drop (length here)) all ∙ drop-append_seam here behind in
        let front : take (length here) rows ≡ here = ap (take (length here)) all ∙ take-append_seam here behind in
        let begin : next_key rows (length here) ≡ high = ap (λ ys. first_key_or ys end_key) rest in
        let one : IsTied (segments_at table' 0) e high = subst (λ cs. IsTied cs e high) (sym here_is) (record { leaf = is_leaf; sound = sound; cuts = sym are; ends = settled.ends }) in
        let parts : parts_in new table' ≡ part_of table' e ∷ [] = ap (map (part_of table')) one_entry_is in
        let free : length new.free ≡ length table - 1 = ap (λ (i : Index). length i.free) others ∙ ap (λ (i : Index). length i.free) is_new ∙ length-range_with_len 1 (length table - 1) in
        let count : length (rows_of (segments_at table' 0)) ≡ length here = ap (λ cs. length (rows_of cs)) here_is ∙ ap length settled.rows_are ∙ length-map here settled_row in
        let weight : sum (map weight_of_part (parts_in new table')) ≡ length here - (SPLIT_ROWS + 1) = ap (λ ps. sum (map weight_of_part ps)) parts ∙ weight_one (part_of table' e) ∙ ap (λ n. n - (SPLIT_ROWS + 1)) count in
        let entries : length new.entries ≡ 1 = ap length one_entry_is in
        record {
          within = omega (arith, few);
          count = ap length is ∙ length-set table 0 (Some memory) ∙ sym leaves;
          index_is = ready;
          tied = subst (λ k. AreTiedTo table' k new.entries) (sym begin) (subst (AreTiedTo table' high) (sym one_entry_is) (one, tt));
          rows_are = ap (λ ps. rows_of (cells_in ps)) parts ∙ ap rows_of (append-nil (segments_at table' 0) ∙ here_is) ∙ settled.rows_are ∙ ap settled_rows (sym front);
          retired = ap (λ (i : Index). i.retired) others ∙ ap (λ (i : Index). i.retired) is_new;
          lists = omega (arith, free, entries, leaves, some);
          below = subst (λ k. AllByRecursion (λ (x : Entry). is_below x.low k ≡ true) new.entries) (sym begin) (subst (AllByRecursion (λ (x : Entry). is_below x.low high ≡ true)) (sym one_entry_is) (first.low, tt));
          weight = omega (arith, weight, entries);
          full = λ left. (omega (arith, entries, few, left), omega (arith, weight, entries, few, left));
        }

-- ---- the end

tied_to_end : (table : Table) (es : List Entry) → AreTiedTo table end_key es → AreTied table es
tied_to_end table [] tied = tt
tied_to_end table (e ∷ es) tied = (subst (IsTied (segments_at table e.leaf) e) (same es) tied.0, tied_to_end table es tied.1)
  where
    same : (es : List Entry) → begin_of es end_key ≡ end_of es
    same [] = refl
    same (f ∷ es) = refl

-- each row has its value alone
settled_found : (rows : List Row) (q : Key) → or_nothing (find key_cmp q (settled_rows rows)) ≡ settled_at rows q
settled_found [] q = refl
settled_found (r ∷ rows) q = elim (eq_by_cmp key_cmp q r.key) as (λ t. or_nothing (cond t (Some (record { pairs = []; oldest = Some r.weight; touches = [] })) (find key_cmp q (settled_rows rows))) ≡ cond t (record { pairs = []; oldest = Some r.weight; touches = [] }) (settled_at rows q)) [
  | true ↦ refl
  | false ↦ settled_found rows q
]

pub record IsFilledStore (leaves : ℕ) (rows : List Row) (index : Index) (table : Table) : Type 0 where
  pub kept : IsKept index table
  pub are : AreFilled leaves rows (leaves_of index table)

pub is_filled : (leaves : ℕ) (rows : List Row) (index : Index) (table : Table) → IsFilling rows (length rows) index table → index.leaves ≡ leaves → IsFilledStore leaves rows index table
is_filled leaves rows index table f limit =
    let end : next_key rows (length rows) ≡ end_key = ap (λ ys. first_key_or ys end_key) (drop_whole rows) in
    let kept : IsKept index table = record { count = f.count; index_is = f.index_is; tied = tied_to_end table index.entries (subst (λ k. AreTiedTo table k index.entries) end f.tied); begin = subst (λ k. BeginBelow k index.entries) end f.below; stamps = subst AreStamped (sym f.retired) tt } in
    record {
      kept = kept;
      are = record {
        versions = λ q. versions_in_rows (leaves_of index table) q (kept_leaves index table kept) ∙ ap (λ rs. or_nothing (find key_cmp q rs)) (f.rows_are ∙ ap settled_rows (take_all (length rows) rows (omega arith))) ∙ settled_found rows q;
        limit_is = limit;
        retired = f.retired;
        weight = omega (arith, f.weight, f.lists, limit);
      };
    }
  where
    drop_whole : (xs : List Row) → drop (length xs) xs ≡ []
    drop_whole [] = refl
    drop_whole (x ∷ xs) = drop_whole xs

pub fill_refused : (leaves : ℕ) (rows : List Row) (index : Index) → index.leaves ≡ leaves → (refusal : RoomRefusal) → IsFillStop refusal index rows → IsFillRefusal leaves rows refusal
fill_refused leaves rows index limit (refusals.Full n) stop = (stop.0 ∙ limit, omega (arith, stop.1, limit))
fill_refused leaves rows index limit refusals.NoMemory stop = tt

-- an error that is passed on
pub handed_on : {T E : Type 0} (r : Result T E) (e : E) (P : E → Type 0) → IsErrAnd r (λ x. x ≡ e) → P e → IfErr r P
handed_on (Ok x) e P is here = absurd is
handed_on (Err x) e P is here = subst P (sym is) here

-- Leaves of which only the room for records has changed, and leaves without records.
use Rattle.std.proofs.Common.{◌≡◌, ◌≢◌, ℕ, ◌+◌, ◌-◌, ◌*◌, List, [], ◌∷◌, ◌++◌, length, map, take, drop, refl, sym, ◌∙◌, ap, ap₂, subst, arith, inl, inr}
use Rattle.std.specs.Prelude.{Bool, true, false, cond, sum, ◌⊎◌}
use Rattle.std.proofs.lemmas.Grind.{flat_map-append}
use Rattle.graph_model.specs.declared.limits.TheConstants.{SPLIT_ROWS}
use Rattle.graph_model.specs.declared.row.Key.{Key}
use Rattle.graph_model.specs.Rows.{is_between}
use Rattle.leaf_table.specs.VersionSegment.Rows.{VersionedRows, IsSameSegment, all_records}
use Rattle.density_tree.specs.declared.window.Window.{Window}
use Rattle.leaf_table.specs.LeafArray.Leaves.{window_of}
use Rattle.leaf_table.specs.LeafArray.Segments.{AreSame, records_of, rows_of}
use Rattle.leaf_table.proofs.LeafArray.CountLemmas.{same-rows}
use Rattle.leaf_table.proofs.LeafArray.PairLemmas.{rows-append}
use Rattle.leaf_table.proofs.LeafArray.SegmentLemmas.{records-append}
use Rattle.leaf_index.specs.Index.{Index, Entry}
use Rattle.leaf_queue.proofs.ListLemmas.{same_or_not}
use Rattle.leaf_store.specs.Leaves.{Part, cell_in, record_count, weight_of_part}
use Rattle.leaf_store.specs.Merging.{AreSameParts, KeepsParts}
use Rattle.leaf_store.specs.Pairs.{Stands}
use Rattle.leaf_store.specs.Table.{leaves_of, part_of, segments_at}
use Rattle.leaf_store.proofs.CellLemmas.{holds}
use Rattle.leaf_store.proofs.MoveLemmas.{in_window, same_append}
use Rattle.leaf_store.proofs.StoreLemmas.{cells_in}
use Rattle.leaf_store.proofs.TableLemmas.{Table, KeepsOthers, parts_append}

-- ---- the same leaves, as lists

pub same_self : (ss : List VersionedRows) → AreSame ss ss
same_self [] = tt
same_self (s ∷ ss) = (record { low = refl; high = refl; rows = refl }, same_self ss)

cells_same : (ps qs : List Part) → AreSameParts ps qs → AreSame (cells_in ps) (cells_in qs)
cells_same [] [] same = tt
cells_same (p ∷ ps) (q ∷ qs) same = same_append p.segments q.segments (cells_in ps) (cells_in qs) same.1 (cells_same ps qs same.2)
cells_same [] (q ∷ qs) same = absurd same
cells_same (p ∷ ps) [] same = absurd same

-- the cell of a key is the same
cell_same : (key : Key) (ms ns : List VersionedRows) → AreSame ms ns → IsSameSegment (cell_in ms key) (cell_in ns key)
cell_same key [] [] same = record { low = refl; high = refl; rows = refl }
cell_same key (m ∷ ms) (n ∷ ns) same =
    subst (λ t. IsSameSegment (cond (holds m key) m (cell_in ms key)) (cond t n (cell_in ns key))) (sym (ap₂ (λ l h. is_between l h key) same.0.low same.0.high)) (by_test (holds m key) (cell_same key ms ns same.1))
  where
    by_test : (t : Bool) → IsSameSegment (cell_in ms key) (cell_in ns key) → IsSameSegment (cond t m (cell_in ms key)) (cond t n (cell_in ns key))
    by_test true rest = same.0
    by_test false rest = rest
cell_same key [] (n ∷ ns) same = absurd same
cell_same key (m ∷ ms) [] same = absurd same

weights_same : (ps qs : List Part) → AreSameParts ps qs → map weight_of_part qs ≡ map weight_of_part ps
weights_same [] [] same = refl
weights_same (p ∷ ps) (q ∷ qs) same =
    ap₂ (λ w ws. w ∷ ws) (ap (λ rows. length rows - (SPLIT_ROWS + 1)) (same-rows p.segments q.segments same.1)) (weights_same ps qs same.2)
weights_same [] (q ∷ qs) same = absurd same
weights_same (p ∷ ps) [] same = absurd same

-- ---- the same memory

-- of no leaf has more than the room for records changed
abbrev pub SameTable : Table → Table → Type 0
SameTable table new = (n : ℕ) → AreSame (segments_at table n) (segments_at new n)

pub one_same : (table new : Table) (leaf : ℕ) → KeepsOthers table new leaf → AreSame (segments_at table leaf) (segments_at new leaf) → SameTable table new
one_same table new leaf keeps same n = by_case (same_or_not n leaf)
  where
    by_case : (n ≡ leaf) ⊎ (n ≢ leaf) → AreSame (segments_at table n) (segments_at new n)
    by_case (inl here) = subst (λ m. AreSame (segments_at table m) (segments_at new m)) (sym here) same
    by_case (inr other) = subst (AreSame (segments_at table n)) (sym (keeps n other)) (same_self (segments_at table n))

pub two_same : (table new : Table) (one two : ℕ) → ((n : ℕ) → n ≢ one → n ≢ two → segments_at new n ≡ segments_at table n) → AreSame (segments_at table one) (segments_at new one) → AreSame (segments_at table two) (segments_at new two) → SameTable table new
two_same table new one two keeps first second n = by_case (same_or_not n one) (same_or_not n two)
  where
    by_case : (n ≡ one) ⊎ (n ≢ one) → (n ≡ two) ⊎ (n ≢ two) → AreSame (segments_at table n) (segments_at new n)
    by_case (inl here) other = subst (λ m. AreSame (segments_at table m) (segments_at new m)) (sym here) first
    by_case (inr ne) (inl here) = subst (λ m. AreSame (segments_at table m) (segments_at new m)) (sym here) second
    by_case (inr ne) (inr ne') = subst (AreSame (segments_at table n)) (sym (keeps n ne ne')) (same_self (segments_at table n))

parts_same : (table new : Table) (es : List Entry) → SameTable table new → AreSameParts (map (part_of table) es) (map (part_of new) es)
parts_same table new [] same = tt
parts_same table new (e ∷ es) same = (refl, same e.leaf, parts_same table new es same)

-- so no row, cell or entry has changed
pub keeps_parts : (index : Index) (table new : Table) → SameTable table new → KeepsParts (leaves_of index table) (leaves_of index new)
keeps_parts index table new same =
    let ps = map (part_of table) index.entries in
    let qs = map (part_of new) index.entries in
    let parts = parts_same table new index.entries same in
    record {
      cells = record {
        cells = λ q. cell_same q (cells_in ps) (cells_in qs) (cells_same ps qs parts);
        limit = refl;
        free = refl;
        retired = refl;
        weight = ap (λ ws. sum ws + SPLIT_ROWS * (index.leaves - 1 - length index.free)) (weights_same ps qs parts);
      };
      parts = parts;
    }

-- ---- leaves without records

records_both : (xs ys : List VersionedRows) → records_of (xs ++ ys) ≡ records_of xs + records_of ys
records_both xs ys = ap all_records (rows-append xs ys) ∙ records-append (rows_of xs) (rows_of ys)

-- where the store has none a leaf has none
pub leaf_settled : (index : Index) (table : Table) (leaf : ℕ) → Stands index.entries leaf → record_count (leaves_of index table) ≡ 0 → records_of (segments_at table leaf) ≡ 0
leaf_settled index table leaf s none =
    let front = map (part_of table) s.front in
    let back = map (part_of table) s.back in
    let ss = segments_at table s.entry.leaf in
    let cells : cells_in (map (part_of table) index.entries) ≡ cells_in front ++ (ss ++ cells_in back) =
    ap (λ es. cells_in (map (part_of table) es)) s.is ∙ ap cells_in (parts_append table s.front (s.entry ∷ s.back)) ∙ flat_map-append (λ p. p.segments) front (part_of table s.entry ∷ back) in
    omega (arith, none, ap records_of cells, records_both (cells_in front) (ss ++ cells_in back), records_both ss (cells_in back), ap (λ n. records_of (segments_at table n)) s.number)

-- and a window of it has none
pub window_settled : (window : Window) (ss : List VersionedRows) → records_of ss ≡ 0 → records_of (window_of window ss) ≡ 0
window_settled window ss none =
    let front = take window.first ss in
    let rest = drop (window.first + window.len) ss in
    omega (arith, none, ap records_of (in_window window ss), records_both front (window_of window ss ++ rest), records_both (window_of window ss) rest)

-- Windows with a segment that has too few rows, and what their being there says of the store.
use Rattle.std.proofs.Common.{◌≡◌, ℕ, zero, suc, ◌+◌, ◌*◌, ◌<◌, ◌≤◌, List, [], ◌∷◌, ◌++◌, length, take, drop, refl, sym, ap, subst, arith}
use Rattle.std.specs.Prelude.{slice_index}
use Rattle.leaf_table.specs.VersionSegment.Rows.{VersionedRows}
use Rattle.density_tree.specs.declared.window.Window.{Window}
use Rattle.density_tree.specs.Windows.{IsDense, IsRound, IsSmallest}
use Rattle.leaf_table.specs.LeafArray.Leaves.{IsWindow, window_of}
use Rattle.leaf_table.specs.LeafArray.Segments.{rows_of, counts_of}
use Rattle.leaf_index.specs.Index.{Index}
use Rattle.leaf_store.specs.declared.sparse.SparseWindow.{SparseWindow}
use Rattle.leaf_store.specs.Leaves.{Leaves, Part}
use Rattle.leaf_store.specs.Merging.{AreApart, AreLevel, HasNoWindow, IsCompact, IsLeftmostWindow, IsLevel, IsSparseWindow, MergesTwo, SpreadsOne, rows_in_part}
use Rattle.leaf_store.specs.Pairs.{IsFoundWindow}
use Rattle.leaf_store.specs.Table.{IsKept, segments_at}
use Rattle.leaf_store.proofs.CellLemmas.{AreSound}
use Rattle.leaf_store.proofs.HalfLemmas.{few_rows}
use Rattle.leaf_store.proofs.ListLemmas.{all_back}
use Rattle.leaf_store.proofs.MoveLemmas.{Among, among_window}
use Rattle.leaf_store.proofs.RoomLemmas.{stands_tied}
use Rattle.leaf_store.proofs.StoreLemmas.{count_at}
use Rattle.leaf_store.proofs.TableLemmas.{Table}

-- the segment at a place, between the others
record CellWith (ss : List VersionedRows) (segment : ℕ) : Type 0 where
  before : List VersionedRows
  cell : VersionedRows
  behind : List VersionedRows
  is : ss ≡ before ++ cell ∷ behind
  at : length before ≡ segment
  count : slice_index (counts_of ss) segment ≡ length cell.rows

cell_with : (ss : List VersionedRows) (segment : ℕ) → segment < length ss → CellWith ss segment
cell_with [] segment lt = absurd (omega (arith, lt))
cell_with (s ∷ ss) zero lt = record { before = []; cell = s; behind = ss; is = refl; at = refl; count = refl }
cell_with (s ∷ ss) (suc segment) lt =
    let rest = cell_with ss segment (omega (arith, lt)) in
    record { before = s ∷ rest.before; cell = rest.cell; behind = rest.behind; is = ap (λ cs. s ∷ cs) rest.is; at = ap suc rest.at; count = rest.count }

taken_few : (n : ℕ) (ss : List VersionedRows) → length (take n ss) ≤ n
taken_few zero ss = omega arith
taken_few (suc n) [] = omega arith
taken_few (suc n) (s ∷ ss) = omega (arith, taken_few n ss)

few_with : (xs : List VersionedRows) (c : VersionedRows) (ys : List VersionedRows) → AreSound (xs ++ c ∷ ys) → length c.rows < 4 → length (rows_of (xs ++ c ∷ ys)) + 29 ≤ 32 * length (xs ++ c ∷ ys)
few_with [] c ys sound few = omega (arith, count_at [] c ys, few_rows ys sound.1, few)
few_with (x ∷ xs) c ys sound few = omega (arith, count_at (x ∷ xs) c ys, count_at xs c ys, few_with xs c ys sound.1 few, sound.0.small, length_front)
  where
    length_front : length (rows_of (x ∷ xs)) ≡ length x.rows + length (rows_of xs)
    length_front = omega (arith, count_at [] x xs)

drop_sound : (n : ℕ) (ss : List VersionedRows) → AreSound ss → AreSound (drop n ss)
drop_sound zero ss sound = sound
drop_sound (suc n) [] sound = tt
drop_sound (suc n) (s ∷ ss) sound = drop_sound n ss sound.1

take_sound : (n : ℕ) (ss : List VersionedRows) → AreSound ss → AreSound (take n ss)
take_sound zero ss sound = tt
take_sound (suc n) [] sound = tt
take_sound (suc n) (s ∷ ss) sound = (sound.0, take_sound n ss sound.1)

-- such a window has at most 30 rows a segment
pub sparse_few : (ss : List VersionedRows) (window : Window) → length ss ≡ 8 → AreSound ss → IsSparseWindow (counts_of ss) window → length (rows_of (window_of window ss)) ≤ 30 * window.len
sparse_few ss window eight sound sparse =
    let c = cell_with ss sparse.segment (omega (arith, eight, sparse.within)) in
    let few : length c.cell.rows < 4 = omega (arith, c.count, sparse.few) in
    let here : Among c.cell (window_of window ss) = subst (λ cs. Among c.cell (window_of window cs)) (sym c.is) (among_window window.first window.len c.before c.cell c.behind (omega (arith, c.at, sparse.round.from)) (omega (arith, c.at, sparse.round.until))) in
    let in_window = take_sound window.len (drop window.first ss) (drop_sound window.first ss sound) in
    let rows = few_with here.xs c.cell here.ys (subst AreSound here.is in_window) few in
    let same = ap (λ cs. length (rows_of cs)) here.is in
    let wide = ap length here.is in
    omega (arith, rows, same, wide, taken_few window.len (drop window.first ss), sparse.round.within)

pub sparse_wide : (counts : List ℕ) (window : Window) → IsSparseWindow counts window → IsWindow window
sparse_wide counts window sparse = record { some = omega (arith, sparse.round.from, sparse.round.until); within = sparse.round.within }

-- a segment has such a window, and none before it has one
pub leftmost : (counts : List ℕ) (ss : List VersionedRows) (segment : ℕ) (window : Window) → counts ≡ counts_of ss → segment < 8 → slice_index counts segment < 4 → IsSmallest (IsDense counts) segment window → IsRound segment window → ((s : ℕ) → s < segment → HasNoWindow counts s) → IsLeftmostWindow (counts_of ss) window
leftmost counts ss segment window are within few smallest round before =
    subst (λ cs. IsLeftmostWindow cs window) are
    (record { sparse = record { segment = segment; within = within; few = few; smallest = smallest; round = round }; before = before })

-- ---- what is there to do

not_level : (ss : List VersionedRows) (window : Window) → IsSparseWindow (counts_of ss) window → IsLevel ss → ⊥
not_level ss window sparse level =
    let w = sparse.smallest in
    level sparse.segment sparse.within sparse.few w.height w.higher w.within (subst (IsDense (counts_of ss) w.height) w.round w.will)

-- where a window was spread the store wasn't compact
pub spread_undone : (old new : Leaves) → SpreadsOne old new → IsCompact old → ⊥
spread_undone old new s compact =
    not_level s.part.segments s.window s.first.leftmost.sparse (all_back (λ (p : Part). IsLevel p.segments) s.front (s.part ∷ s.back) (subst AreLevel s.was compact.level)).0

apart_at : (ps : List Part) (p q : Part) (qs : List Part) → AreApart (ps ++ p ∷ q ∷ qs) → rows_in_part p + rows_in_part q ≤ 104 → ⊥
apart_at [] p q qs apart few = absurd (omega (arith, apart.0, few))
apart_at (x ∷ ps) p q qs apart few = apart_at ps p q qs apart.1 few

-- nor was it where two leaves became one
pub merge_undone : (old new : Leaves) (stamp : ℕ) → MergesTwo old new stamp → IsCompact old → ⊥
merge_undone old new stamp m compact = apart_at m.front m.left m.right m.back (subst AreApart m.was compact.apart) m.first.few

-- the rows of a window that was found are few
pub found_few : (index : Index) (table : Table) (found : SparseWindow) → IsKept index table → IsFoundWindow index table found → length (rows_of (window_of found.window (segments_at table found.leaf))) ≤ 30 * found.window.len
found_few index table found kept is =
    let tied = stands_tied index table found.leaf kept is.stands in
    sparse_few (segments_at table found.leaf) found.window tied.leaf.segments tied.sound is.leftmost.sparse

-- A spread of the cells of one leaf in hand is a move.
use Rattle.std.proofs.Common.{◌≡◌, ◌⊎◌, inl, inr, ℕ, zero, suc, ◌+◌, ◌*◌, ◌<◌, ◌≤◌, List, [], ◌∷◌, ◌++◌, length, take, drop, refl, sym, ◌∙◌, ap, ap₂, subst, arith}
use Rattle.std.specs.Prelude.{true, false, ◌==◌, ◌||◌, Result, Ok, Err, OnOk, OnErr}
use Rattle.items.specs.declared.memory.NoMemory.{NoMemory}
use Rattle.density_tree.specs.declared.window.Window.{Window}
use Rattle.pass_leaves.specs.LeafArray.Leaves.{SpreadsWindow}
use Rattle.std.specs.List.{AllByRecursion}
use Rattle.std.specs.declared.alloc.Global.{Global}
use Rattle.graph_model.specs.declared.row.Key.{Key}
use Rattle.store_model.specs.Stamped.{StampedVersions}
use Rattle.txn_manager.specs.declared.config.Config.{Config}
use Rattle.pass_leaves.specs.VersionSegment.Rows.{VersionedRows, IsSameSegment, IsSegment}
use Rattle.pass_leaves.specs.LeafArray.Segments.{AreSame, lows_of, rows_of}
use Rattle.pass_leaves.proofs.LeafArray.CountLemmas.{same-rows, same-length, same-low, same-high}
use Rattle.leaf_index.specs.Index.{AreCuts, Entry, HaveCuts, Index, IsIndex, end_of}
use Rattle.pass_leaves.specs.LeafStore.Leaves.{cell_in}
use Rattle.pass_leaves.specs.LeafStore.Table.{AreTied, IsTied}
use Rattle.pass_leaves.proofs.LeafStore.MoveLemmas.{Respreads, room_of, same_keep_room, same_lows, same_respreads}
use Rattle.pass_leaves.proofs.LeafStore.RoomLemmas.{memory_within}
use Rattle.pass_leaves.proofs.LeafStore.TableLemmas.{cuts_at, tied_at}
use Rattle.pass_leaves.specs.CellsModel.Cells.{CellState}
use Rattle.pass_leaves.specs.CellsModel.Indexed.{IsIndexed, leaf_cells, table_of}
use Rattle.pass_leaves.specs.CellsModel.InPlace.{segment_of}
use Rattle.pass_leaves.specs.CellsModel.Moved.{with_entry}
use Rattle.pass_leaves.specs.CellsModel.Words.{HasSmallValues, HasSmallWeights}
use Rattle.pass_leaves.proofs.CellsModel.RunLemmas.{length_from, segments_table}
use Rattle.seat_views.specs.Keeping.{revised}
use Rattle.pass_leaves.specs.RuleModel.MoveSteps.{IsMove}
use Rattle.pass_leaves.specs.RuleModel.Sight.{Agrees, IndexState, Sight}
use Rattle.pass_leaves.proofs.RuleModel.MoveStepLemmas.{spread_is_move}
use Rattle.pass_leaves.specs.PassCellsDeclared.taken.TakenCell.{TakenCell}
use Rattle.pass_leaves.specs.PassCells.Changes.{news_of}
use Rattle.pass_leaves.specs.PassCells.Holding.{AreKnown, numbers_of}
use Rattle.pass_leaves.specs.PassCells.Taken.{AreApart, is_taken}
use Rattle.pass_leaves.specs.Fit.{FitTogether}
use Rattle.pass_leaves.specs.Hand.{numbers_from}
use Rattle.pass_moves.specs.Moving.{AreMarked, HasPut, HavePut, IsMarked, MoveCells, MovesCell, values_of}
use Rattle.pass_moves.proofs.MovedCells.{have_news, is_after, others_same, same_before}

-- ---- lists of cells

pub numbers_moved : (ts us : List TakenCell) → MoveCells ts us → numbers_of us ≡ numbers_of ts
numbers_moved [] [] moves = refl
numbers_moved (t ∷ ts) (u ∷ us) moves = ap₂ (λ n ns. n ∷ ns) moves.0.cell (numbers_moved ts us moves.1)
numbers_moved [] (u ∷ us) moves = absurd moves
numbers_moved (t ∷ ts) [] moves = absurd moves

pub taken_moved : (k : ℕ) (ts us : List TakenCell) → MoveCells ts us → is_taken k us ≡ is_taken k ts
taken_moved k [] [] moves = refl
taken_moved k (t ∷ ts) (u ∷ us) moves = λ i. (k == moves.0.cell i) || taken_moved k ts us moves.1 i
taken_moved k [] (u ∷ us) moves = absurd moves
taken_moved k (t ∷ ts) [] moves = absurd moves

pub apart_moved : (ts us : List TakenCell) → MoveCells ts us → AreApart ts → AreApart us
apart_moved [] [] moves apart = tt
apart_moved (t ∷ ts) (u ∷ us) moves apart = (
  (λ i. is_taken (moves.0.cell i) us) ∙ taken_moved t.held.cell ts us moves.1 ∙ apart.0,
  apart_moved ts us moves.1 apart.1,
)
apart_moved [] (u ∷ us) moves apart = absurd moves
apart_moved (t ∷ ts) [] moves apart = absurd moves

pub length_moved : (ts us : List TakenCell) → MoveCells ts us → length us ≡ length ts
length_moved [] [] moves = refl
length_moved (t ∷ ts) (u ∷ us) moves = ap suc (length_moved ts us moves.1)
length_moved [] (u ∷ us) moves = absurd moves
length_moved (t ∷ ts) [] moves = absurd moves

-- ---- contents that are exchanged, and cells that are marked

pub values_put : (ts : List TakenCell) (ns : List VersionedRows) (ms : List TakenCell) → HavePut ts ns ms
    → values_of ms ≡ ns
values_put [] [] [] put = refl
values_put (t ∷ ts) (n ∷ ns) (m ∷ ms) put = ap₂ (λ s ss. s ∷ ss) put.0.value (values_put ts ns ms put.1)
values_put [] [] (m ∷ ms) put = absurd put
values_put [] (n ∷ ns) ms put = absurd put
values_put (t ∷ ts) [] ms put = absurd put
values_put (t ∷ ts) (n ∷ ns) [] put = absurd put

pub put_twice : (ts : List TakenCell) (ss : List VersionedRows) (ms : List TakenCell) (ns : List VersionedRows)
    (us : List TakenCell) → HavePut ts ss ms → HavePut ms ns us → HavePut ts ns us
put_twice [] [] [] ns us one two = two
put_twice (t ∷ ts) (s ∷ ss) (m ∷ ms) (n ∷ ns) (u ∷ us) one two = (
  record {
    cell = two.0.cell ∙ one.0.cell;
    value_mark = two.0.value_mark ∙ one.0.value_mark;
    mark = two.0.mark ∙ one.0.mark;
    rows = two.0.rows ∙ one.0.rows;
    value = two.0.value;
  },
  put_twice ts ss ms ns us one.1 two.1,
)
put_twice (t ∷ ts) (s ∷ ss) (m ∷ ms) [] us one two = absurd two
put_twice (t ∷ ts) (s ∷ ss) (m ∷ ms) (n ∷ ns) [] one two = absurd two
put_twice [] [] (m ∷ ms) ns us one two = absurd one
put_twice [] (s ∷ ss) ms ns us one two = absurd one
put_twice (t ∷ ts) [] ms ns us one two = absurd one
put_twice (t ∷ ts) (s ∷ ss) [] ns us one two = absurd one

pub values_marked : (ms us : List TakenCell) (first len : ℕ) → AreMarked ms us first len → values_of us ≡ values_of ms
values_marked [] us first len marked = ap values_of marked
values_marked (m ∷ ms) [] first len marked = absurd marked
values_marked (m ∷ ms) (u ∷ us) (suc first) len marked =
    ap₂ (λ s ss. s ∷ ss) (ap (λ (x : TakenCell). x.held.value) marked.0) (values_marked ms us first len marked.1)
values_marked (m ∷ ms) (u ∷ us) zero (suc len) marked =
    ap₂ (λ s ss. s ∷ ss) marked.0.value (values_marked ms us zero len marked.1)
values_marked (m ∷ ms) (u ∷ us) zero zero marked = ap values_of marked

same_segment : (s t : VersionedRows) → t ≡ s → IsSameSegment s t
same_segment s t e = record {
  low = ap (λ (x : VersionedRows). x.low) e;
  high = ap (λ (x : VersionedRows). x.high) e;
  rows = ap (λ (x : VersionedRows). x.rows) e;
}

-- a cell that has the contents that it had, and one that is marked
same_moves : (t m : TakenCell) (n : VersionedRows) → HasPut t n m → IsSegment n → HasSmallWeights n
    → n ≡ t.held.value → MovesCell t m
same_moves t m n put sound small is = record {
  cell = put.cell;
  sound = subst IsSegment (sym put.value) sound;
  small = subst HasSmallWeights (sym put.value) small;
  unmarked = λ e. (sym put.value_mark ∙ e, same_segment t.held.value m.held.value (put.value ∙ is));
  same = λ e. (sym put.mark ∙ e, same_segment t.held.value m.held.value (put.value ∙ is));
}

marked_moves : (t m u : TakenCell) (n : VersionedRows) → HasPut t n m → IsMarked m u → IsSegment n
    → HasSmallWeights n → MovesCell t u
marked_moves t m u n put marked sound small = record {
  cell = marked.cell ∙ put.cell;
  sound = subst IsSegment (sym (marked.value ∙ put.value)) sound;
  small = subst HasSmallWeights (sym (marked.value ∙ put.value)) small;
  unmarked = λ e. clash (sym marked.value_mark ∙ e);
  same = λ e. clash (sym marked.mark ∙ e);
}
  where
    clash : {P : Type 0} → true ≡ false → P
    clash e = cc

all_same : (ts : List TakenCell) (ns : List VersionedRows) (ms : List TakenCell) → HavePut ts ns ms
    → ns ≡ values_of ts → AllByRecursion IsSegment ns → AllByRecursion HasSmallWeights ns → MoveCells ts ms
all_same [] [] [] put e sound small = tt
all_same (t ∷ ts) (n ∷ ns) (m ∷ ms) put e sound small = (
  same_moves t m n put.0 sound.0 small.0 (head e),
  all_same ts ns ms put.1 (tail e) sound.1 small.1,
)
  where
    head : n ∷ ns ≡ t.held.value ∷ values_of ts → n ≡ t.held.value
    head e = cc

    tail : n ∷ ns ≡ t.held.value ∷ values_of ts → ns ≡ values_of ts
    tail e = cc
all_same [] [] (m ∷ ms) put e sound small = absurd put
all_same [] (n ∷ ns) ms put e sound small = absurd put
all_same (t ∷ ts) [] ms put e sound small = absurd put
all_same (t ∷ ts) (n ∷ ns) [] put e sound small = absurd put

-- where contents outside a window are the same, and all cells of the window are marked, the cells have moved
pub window_moves : (first len k : ℕ) (ts : List TakenCell) (ns : List VersionedRows) (ms us : List TakenCell)
    → k ≡ first + len → HavePut ts ns ms → AreMarked ms us first len
    → take first ns ≡ take first (values_of ts) → drop k ns ≡ drop k (values_of ts) → AllByRecursion IsSegment ns
    → AllByRecursion HasSmallWeights ns → MoveCells ts us
window_moves first len k [] [] [] us end put marked before behind sound small =
    subst (MoveCells []) (sym marked) tt
window_moves (suc first) len zero (t ∷ ts) (n ∷ ns) (m ∷ ms) (u ∷ us) end put marked before behind sound small =
    absurd (omega (arith, end))
window_moves (suc first) len (suc k) (t ∷ ts) (n ∷ ns) (m ∷ ms) (u ∷ us) end put marked before behind sound small = (
  subst (MovesCell t) (sym marked.0) (same_moves t m n put.0 sound.0 small.0 (head before)),
  window_moves first len k ts ns ms us (omega (arith, end)) put.1 marked.1 (tail before) behind sound.1 small.1,
)
  where
    head : n ∷ take first ns ≡ t.held.value ∷ take first (values_of ts) → n ≡ t.held.value
    head e = cc

    tail : n ∷ take first ns ≡ t.held.value ∷ take first (values_of ts) → take first ns ≡ take first (values_of ts)
    tail e = cc
window_moves zero (suc len) zero (t ∷ ts) (n ∷ ns) (m ∷ ms) (u ∷ us) end put marked before behind sound small =
    absurd (omega (arith, end))
window_moves zero (suc len) (suc k) (t ∷ ts) (n ∷ ns) (m ∷ ms) (u ∷ us) end put marked before behind sound small = (
  marked_moves t m u n put.0 marked.0 sound.0 small.0,
  window_moves zero len k ts ns ms us (omega (arith, end)) put.1 marked.1 refl behind sound.1 small.1,
)
window_moves zero zero (suc k) (t ∷ ts) (n ∷ ns) (m ∷ ms) (u ∷ us) end put marked before behind sound small =
    absurd (omega (arith, end))
window_moves zero zero zero (t ∷ ts) (n ∷ ns) (m ∷ ms) (u ∷ us) end put marked before behind sound small =
    subst (MoveCells (t ∷ ts)) (sym marked) (all_same (t ∷ ts) (n ∷ ns) (m ∷ ms) put behind sound small)
window_moves first len k (t ∷ ts) (n ∷ ns) (m ∷ ms) [] end put marked before behind sound small = absurd marked
window_moves first len k [] [] (m ∷ ms) us end put marked before behind sound small = absurd put
window_moves first len k [] (n ∷ ns) ms us end put marked before behind sound small = absurd put
window_moves first len k (t ∷ ts) [] ms us end put marked before behind sound small = absurd put
window_moves first len k (t ∷ ts) (n ∷ ns) [] us end put marked before behind sound small = absurd put

-- a leaf has its segments after a spread, whatever came of it
pub either_length : (r : Result (Unit {0}) NoMemory) (window : Window) (ss ns : List VersionedRows)
    {ts : List VersionedRows} → OnOk r (SpreadsWindow window ss ns) → OnErr r (AreSame ss ns) → ss ≡ ts
    → length ts ≡ 8 → length ns ≡ 8
either_length (Ok x) window ss ns ok err same eight = ok.leaf.segments
either_length (Err e) window ss ns ok err same eight = same-length ss ns err ∙ ap length same ∙ eight

-- ---- values that may be stored

rows_small : (ss : List VersionedRows) → AllByRecursion HasSmallWeights ss
    → AllByRecursion (λ (row : Key × StampedVersions). HasSmallValues row.1) (rows_of ss)
rows_small [] small = tt
rows_small (s ∷ ss) small = front s.rows small.0 (rows_small ss small.1)
  where
    front : (rows : List (Key × StampedVersions)) → AllByRecursion (λ row. HasSmallValues row.1) rows
        → AllByRecursion (λ (row : Key × StampedVersions). HasSmallValues row.1) (rows_of ss)
        → AllByRecursion (λ (row : Key × StampedVersions). HasSmallValues row.1) (rows ++ rows_of ss)
    front [] all rest = rest
    front (r ∷ rs) all rest = (all.0, front rs all.1 rest)

small_rows : (ss : List VersionedRows)
    → AllByRecursion (λ (row : Key × StampedVersions). HasSmallValues row.1) (rows_of ss)
    → AllByRecursion HasSmallWeights ss
small_rows [] small = tt
small_rows (s ∷ ss) small = let parts = split s.rows small in (parts.0, small_rows ss parts.1)
  where
    split : (rows : List (Key × StampedVersions))
        → AllByRecursion (λ (row : Key × StampedVersions). HasSmallValues row.1) (rows ++ rows_of ss)
        → AllByRecursion (λ (row : Key × StampedVersions). HasSmallValues row.1) rows
        × AllByRecursion (λ (row : Key × StampedVersions). HasSmallValues row.1) (rows_of ss)
    split [] all = (tt, all)
    split (r ∷ rs) all = let rest = split rs all.1 in ((all.0, rest.0), rest.1)

-- the same rows may be stored in other segments
pub small_moved : (ss ns : List VersionedRows) → rows_of ns ≡ rows_of ss → AllByRecursion HasSmallWeights ss
    → AllByRecursion HasSmallWeights ns
small_moved ss ns same small =
    small_rows ns (subst (AllByRecursion (λ (row : Key × StampedVersions). HasSmallValues row.1)) (sym same)
    (rows_small ss small))

pub known_small : (z : Config) (v : Sight) (ts : List TakenCell) → AreKnown z v ts
    → AllByRecursion HasSmallWeights (values_of ts)
known_small z v [] known = tt
known_small z v (t ∷ ts) known = (known.0.small, known_small z v ts known.1)

-- ---- segments that are the same but for room

pub respreads_same : (ms ss ns : List VersionedRows) → AreSame ms ss → Respreads ss ns → Respreads ms ns
respreads_same ms ss ns same respreads = record {
  leaf = respreads.leaf;
  sound = respreads.sound;
  rows = respreads.rows ∙ same-rows ms ss same;
  low = λ other. respreads.low other ∙ same-low ms ss same other;
  high = λ other. respreads.high other ∙ same-high ms ss same other;
  room = λ q. both q (same_keep_room ms ss same q) (respreads.room q);
}
  where
    Keeps : ℕ → ℕ → Type 0
    Keeps m n = (m ≤ n) ⊎ (2 ≤ n)

    both : (q : Key) → Keeps (room_of (cell_in ms q)) (room_of (cell_in ss q))
        → Keeps (room_of (cell_in ss q)) (room_of (cell_in ns q))
        → Keeps (room_of (cell_in ms q)) (room_of (cell_in ns q))
    both q one (inr two) = inr two
    both q (inl le) (inl more) = inl (omega (arith, le, more))
    both q (inr two) (inl more) = inr (omega (arith, two, more))

-- ---- the leaf in hand

-- a live leaf exists
pub stands_inside : (z : Config) (v : Sight) (y : IndexState) → (fit : FitTogether z v y) → (front : List Entry)
    (e : Entry) (back : List Entry) → y.index.entries ≡ front ++ e ∷ back → e.leaf < y.index.leaves
stands_inside z v y fit front e back entries =
    let table = table_of fit.heap (segment_of fit.cell) y.index.leaves in
    let tied = (tied_at table front (e ∷ back) (subst (AreTied table) entries fit.indexed.kept.tied)).0 in
    let within = memory_within table e.leaf tied.leaf.segments in
    let count = length_from fit.heap (segment_of fit.cell) 0 y.index.leaves in
    omega (arith, within, count)

module _ (z : Config) (v : Sight) (y : IndexState) (ts : List TakenCell) (fit : FitTogether z v y)
    (known : AreKnown z v ts) (front : List Entry) (e : Entry) (back : List Entry)
    (entries : y.index.entries ≡ front ++ e ∷ back) (inside : e.leaf < y.index.leaves)
    (numbers : numbers_of ts ≡ numbers_from (8 * e.leaf) 8) where
  abbrev old : ℕ → VersionedRows
  old = segment_of fit.cell

  same : AreSame (leaf_cells old e.leaf) (values_of ts)
  same = same_before z v fit.cell fit.agrees (8 * e.leaf) 8 ts known numbers

  cells_tied : IsTied (leaf_cells old e.leaf) e (end_of back)
  cells_tied = subst (λ ss. IsTied ss e (end_of back)) (segments_table fit.heap old y.index.leaves e.leaf inside)
      (tied_at (table_of fit.heap old y.index.leaves) front (e ∷ back)
      (subst (AreTied (table_of fit.heap old y.index.leaves)) entries fit.indexed.kept.tied)).0

  pub entry_cuts : AreCuts e.low e.cuts (end_of back)
  entry_cuts = (cuts_at front (e ∷ back) (subst HaveCuts entries fit.indexed.kept.index_is.cuts)).0

  -- what is in hand begins with the cuts of the entry, and ends where the next entry begins
  pub values_tied : IsTied (values_of ts) e (end_of back)
  values_tied =
      let are = same_respreads (leaf_cells old e.leaf) (values_of ts) cells_tied.leaf cells_tied.sound same in
      record {
        leaf = are.leaf;
        sound = are.sound;
        cuts = same_lows (leaf_cells old e.leaf) (values_of ts) same ∙ cells_tied.cuts;
        ends = same-high (leaf_cells old e.leaf) (values_of ts) same e.low ∙ cells_tied.ends;
      }

  module _ (us : List TakenCell) (moves : MoveCells ts us) (apart : AreApart ts)
      (respreads : Respreads (values_of ts) (values_of us)) where
    abbrev pub index' : Index
    index' = with_entry y.index front (record e { cuts = lows_of (values_of us) }) back

    -- THE LAW OF CELLS IN HAND: whatever all other cells are, the spread is a move
    pub spread_moves : (heap : Global) (stamp : ℕ) (cell : ℕ → CellState) → Agrees v cell
        → IsIndexed heap y.index (segment_of cell) → IsIndex index'
        → IsMove heap y.index index' stamp (segment_of cell) (segment_of (revised cell (news_of v us)))
    spread_moves heap stamp cell agrees indexed ready =
        let cell' = segment_of (revised cell (news_of v us)) in
        let numbers' : numbers_of us ≡ numbers_from (8 * e.leaf) 8 = numbers_moved ts us moves ∙ numbers in
        let now : leaf_cells cell' e.leaf ≡ values_of us =
        is_after z v cell agrees (8 * e.leaf) 8 us us (have_news v us (apart_moved ts us moves apart)) numbers' in
        let before = same_before z v cell agrees (8 * e.leaf) 8 ts known numbers in
        subst (λ ss. IsMove heap y.index (with_entry y.index front (record e { cuts = lows_of ss }) back) stamp
        (segment_of cell) cell') now
        (spread_is_move heap y.index stamp (segment_of cell) cell' front e back indexed entries inside
        (others_same z v cell us e.leaf numbers')
        (subst (Respreads (leaf_cells (segment_of cell) e.leaf)) (sym now)
        (respreads_same (leaf_cells (segment_of cell) e.leaf) (values_of ts) (values_of us) before respreads))
        (subst (λ ss. IsIndex (with_entry y.index front (record e { cuts = lows_of ss }) back)) (sym now) ready))

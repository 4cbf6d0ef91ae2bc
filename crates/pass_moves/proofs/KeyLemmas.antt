-- The cell in hand that covers a key, and the places that it has.
use Rattle.std.proofs.Common.{◌≡◌, ℕ, zero, suc, ◌+◌, ◌*◌, ◌%◌, ◌<◌, ◌≤◌, List, [], ◌∷◌, ◌++◌, length, map, take, refl, sym, ◌∙◌, ap, subst, arith, Some}
use Rattle.std.specs.Prelude.{Bool, true, false, slice_get, slice_index, IsSomeAnd}
use Rattle.std.proofs.lemmas.List.{length-map}
use Rattle.std.specs.List.{AllByRecursion}
use Rattle.std.specs.declared.alloc.Global.{Global}
use Rattle.std.specs.declared.boxed.Box.{Box}
use Rattle.graph_model.specs.declared.row.Key.{Key}
use Rattle.graph_model.specs.Rows.{is_below, end_key, is_between}
use Rattle.txn_manager.specs.declared.config.Config.{Config}
use Rattle.pass_leaves.specs.VersionSegment.Rows.{VersionedRows, IsSegment}
use Rattle.pass_leaves.specs.LeafArray.Segments.{AreSame, counts_of, HoldsKey, rows_of}
use Rattle.pass_leaves.proofs.LeafArray.LeafLemmas.{Follow}
use Rattle.latch_table.specs.declared.cells.Held.{Held}
use Rattle.leaf_index.specs.Index.{Entry, Index, IsFloor, IsRoute, NotAbove, end_of}
use Rattle.leaf_index.specs.Index as leaf_index
use Rattle.leaf_index.specs.declared.index.LeafIndex.{LeafIndex}
use Rattle.leaf_index.specs.declared.route.Route.{Route}
use Rattle.pass_leaves.specs.LeafTableDeclared.place.Place.{Place}
use Rattle.pass_leaves.specs.LeafStore.Leaves.{cell_in}
use Rattle.pass_leaves.specs.LeafStore.Pairs.{Stands}
use Rattle.pass_leaves.specs.LeafStore.Table.{IsPlace, IsTied, segments_at}
use Rattle.pass_leaves.proofs.LeafStore.CellLemmas.{AreSound, cell_here, holds}
use Rattle.pass_leaves.proofs.LeafStore.MoveLemmas.{room_in_spread}
use Rattle.pass_leaves.proofs.LeafStore.RoomLemmas.{few_in_window}
use Rattle.density_tree.specs.declared.window.Window.{Window}
use Rattle.density_tree.specs.Windows.{Fits, IsSmallest}
use Rattle.graph_model.specs.declared.limits.TheConstants.{SEGMENT_ROWS}
use Rattle.pass_leaves.specs.LeafArray.Leaves.{SpreadsWindow, window_of}
use Rattle.room_choice.specs.Choice.{IsCrowded, IsSpread}
use Rattle.pass_moves.specs.Room.{HasRoom, IsCrowdedAt, KnowsLeaf}
use Rattle.pass_leaves.proofs.LeafStore.ListLemmas.{all_back}
use Rattle.pass_leaves.proofs.LeafStore.TableLemmas.{located, tied_follow}
use Rattle.pass_leaves.specs.CellsModel.Indexed.{covers, leaf_cells, table_of}
use Rattle.pass_leaves.specs.CellsModel.InPlace.{segment_of}
use Rattle.pass_leaves.proofs.CellsModel.RunLemmas.{segments_table}
use Rattle.pass_leaves.specs.RuleModel.Sight.{IndexState, Sight}
use Rattle.pass_leaves.specs.StoreRuleDeclared.store.Pass.{Pass}
use Rattle.pass_leaves.specs.StoreRuleDeclared.store.Store.{Store}
use Rattle.pass_leaves.specs.PassCellsDeclared.taken.TakenCell.{TakenCell}
use Rattle.pass_leaves.specs.PassCells.Holding.{AreKnown, numbers_of}
use Rattle.pass_leaves.proofs.PassCells.DoneLemmas.{none_behind}
use Rattle.pass_leaves.specs.Fit.{FitTogether, TellsFit}
use Rattle.pass_leaves.specs.Hand.{HoldsLeaves, IsLeafOfKey, numbers_from}
use Rattle.pass_moves.specs.Moving.{values_of}
use Rattle.pass_moves.proofs.MovedCells.{same_before}
use Rattle.pass_moves.proofs.SpreadLemmas.{entry_cuts, stands_inside, values_tied}

-- ---- one entry is a key's

above_not : (key low : Key) → is_below key low ≡ true → NotAbove low key → ⊥
above_not key low above from = let no : true ≡ false = sym above ∙ from in cc

-- the last entry that doesn't begin above a key is one
pub one_floor : (key : Key) (front : List Entry) (e : Entry) (back front' : List Entry) (e' : Entry)
    (back' : List Entry)
    → front ++ e ∷ back ≡ front' ++ e' ∷ back' → NotAbove e.low key → NotAbove e'.low key
    → AllByRecursion (λ x. is_below key x.low ≡ true) back → AllByRecursion (λ x. is_below key x.low ≡ true) back'
    → e ≡ e'
one_floor key [] e back [] e' back' same from from' above above' = head same
  where
    head : e ∷ back ≡ e' ∷ back' → e ≡ e'
    head h = cc
one_floor key [] e back (x ∷ front') e' back' same from from' above above' =
    absurd (above_not key e'.low (all_back (λ (y : Entry). is_below key y.low ≡ true) front' (e' ∷ back')
    (subst (AllByRecursion (λ (y : Entry). is_below key y.low ≡ true)) (tail same) above)).0 from')
  where
    tail : e ∷ back ≡ x ∷ front' ++ e' ∷ back' → back ≡ front' ++ e' ∷ back'
    tail h = cc
one_floor key (x ∷ front) e back [] e' back' same from from' above above' =
    absurd (above_not key e.low (all_back (λ (y : Entry). is_below key y.low ≡ true) front (e ∷ back)
    (subst (AllByRecursion (λ (y : Entry). is_below key y.low ≡ true)) (sym (tail same)) above')).0 from)
  where
    tail : x ∷ front ++ e ∷ back ≡ e' ∷ back' → front ++ e ∷ back ≡ back'
    tail h = cc
one_floor key (x ∷ front) e back (x' ∷ front') e' back' same from from' above above' =
    one_floor key front e back front' e' back' (tail same) from from' above above'
  where
    tail : x ∷ front ++ e ∷ back ≡ x' ∷ front' ++ e' ∷ back' → front ++ e ∷ back ≡ front' ++ e' ∷ back'
    tail h = cc

-- ---- lists of segments

-- the segment at a place among others
pub record At (ss : List VersionedRows) (key : Key) (place : ℕ) : Type 0 where
  pub before : List VersionedRows
  pub cell : VersionedRows
  pub behind : List VersionedRows
  pub is : ss ≡ before ++ cell ∷ behind
  pub at : length before ≡ place
  pub held : holds cell key ≡ true

same_at : (key : Key) (bs : List VersionedRows) (c : VersionedRows) (ds vs : List VersionedRows)
    → AreSame (bs ++ c ∷ ds) vs → holds c key ≡ true → At vs key (length bs)
same_at key [] c ds [] same held = absurd same
same_at key [] c ds (v ∷ vs) same held = record {
  before = [];
  cell = v;
  behind = vs;
  is = refl;
  at = refl;
  held = (λ i. is_between (same.0.low i) (same.0.high i) key) ∙ held;
}
same_at key (b ∷ bs) c ds [] same held = absurd same
same_at key (b ∷ bs) c ds (v ∷ vs) same held =
    let rest = same_at key bs c ds vs same.1 held in
    record {
      before = v ∷ rest.before;
      cell = rest.cell;
      behind = rest.behind;
      is = ap (λ l. v ∷ l) rest.is;
      at = ap suc rest.at;
      held = rest.held;
    }

count_at : (bs : List VersionedRows) (c : VersionedRows) (ds : List VersionedRows)
    → slice_index (counts_of (bs ++ c ∷ ds)) (length bs) ≡ length c.rows
count_at [] c ds = refl
count_at (b ∷ bs) c ds = count_at bs c ds

get_at : (bs : List VersionedRows) (c : VersionedRows) (ds : List VersionedRows)
    → slice_get (bs ++ c ∷ ds) (length bs) ≡ Some c
get_at [] c ds = refl
get_at (b ∷ bs) c ds = get_at bs c ds

-- it has so many rows, and holds the key
pub at_count : (ss : List VersionedRows) (key : Key) (place : ℕ) → (a : At ss key place)
    → slice_index (counts_of ss) place ≡ length a.cell.rows
at_count ss key place a =
    (λ i. slice_index (counts_of (a.is i)) (sym a.at i)) ∙ count_at a.before a.cell a.behind

pub at_holds : (ss : List VersionedRows) (key : Key) (place : ℕ) → At ss key place → HoldsKey ss key place
at_holds ss key place a = subst (λ o. IsSomeAnd o (λ (s : VersionedRows). is_between s.low s.high key ≡ true))
    (sym ((λ i. slice_get (a.is i) (sym a.at i)) ∙ get_at a.before a.cell a.behind)) a.held

-- the first that covers the key
at_first : (ss : List VersionedRows) (key : Key) (place : ℕ) → (a : At ss key place) → (low : Key) → Follow low ss
    → AreSound ss → cell_in ss key ≡ a.cell
at_first ss key place a low follow sound =
    ap (λ l. cell_in l key) a.is
    ∙ cell_here low key a.before a.cell a.behind (subst (Follow low) a.is follow) (subst AreSound a.is sound) a.held

-- the first ones of two lists are those of the first
pub take_front : {X : Type 0} (xs ys : List X) (n : ℕ) → n ≡ length xs → take n (xs ++ ys) ≡ xs
take_front [] ys zero e = refl
take_front [] ys (suc n) e = absurd (omega (arith, e))
take_front (x ∷ xs) ys zero e = absurd (omega (arith, e))
take_front (x ∷ xs) ys (suc n) e = ap (λ l. x ∷ l) (take_front xs ys n (omega (arith, e)))

-- rows of cells
abbrev pub rows_of_cell : TakenCell → ℕ
rows_of_cell t = length t.held.value.rows

pub counts_values : (ts : List TakenCell) → map rows_of_cell ts ≡ counts_of (values_of ts)
counts_values [] = refl
counts_values (t ∷ ts) = ap (λ l. length t.held.value.rows ∷ l) (counts_values ts)

-- what is known is sound
pub known_sound : (z : Config) (v : Sight) (ts : List TakenCell) → AreKnown z v ts → AreSound (values_of ts)
known_sound z v [] known = tt
known_sound z v (t ∷ ts) known = (known.0.sound, known_sound z v ts known.1)

-- a leaf has eight cells
pub eight_cells : (store : Store) (pass : Pass) (leaf : ℕ) (ts : List TakenCell) (index : Held (Box LeafIndex Global))
    → HoldsLeaves store pass (leaf ∷ []) ts index → length ts ≡ 8
eight_cells store pass leaf ts index holds = sym (length-map ts (λ t. t.held.cell)) ∙ ap length holds.numbers

pub eight_known : (z : Config) (v : Sight) (leaf : ℕ) (ts : List TakenCell) (index : Held (Box LeafIndex Global))
    → KnowsLeaf z v leaf ts index → length ts ≡ 8
eight_known z v leaf ts index knows = sym (length-map ts (λ t. t.held.cell)) ∙ ap length knows.numbers

-- a key has one leaf
pub one_leaf : (key : Key) (index : Index) (l m : ℕ) → IsLeafOfKey key index l → IsLeafOfKey key index m → l ≡ m
one_leaf key index l m one two =
    sym one.2 ∙ one.1.range_is.leaf
    ∙ ap (λ (x : Entry). x.leaf) (one_floor key one.1.floor.front one.1.entry one.1.floor.back
    two.1.floor.front two.1.entry two.1.floor.back (sym one.1.floor.is ∙ two.1.floor.is) one.1.floor.from
    two.1.floor.from one.1.floor.above two.1.floor.above)
    ∙ sym two.1.range_is.leaf ∙ two.2

-- ---- the key's cell in hand

-- what is in hand of one leaf is known
pub knows_one : (store : Store) (pass : Pass) (leaf : ℕ) (ts : List TakenCell) (index : Held (Box LeafIndex Global))
    → HoldsLeaves store pass (leaf ∷ []) ts index
    → KnowsLeaf store.accounts.config pass.account.me.0 leaf ts index
knows_one store pass leaf ts index holds = record {
  numbers = holds.numbers ∙ none_behind (numbers_from (8 * leaf) 8);
  known = holds.known;
  index_held = holds.index_held;
}

module _ (z : Config) (v : Sight) (ts : List TakenCell) (before : Held (Box LeafIndex Global)) (leaf : ℕ)
    (knows : KnowsLeaf z v leaf ts before) (fits : TellsFit z v) (key : Key)
    (own : IsLeafOfKey key before.value.value leaf) where
  -- the leaf has an entry
  pub own_stands : Stands before.value.value.entries leaf
  own_stands =
      let r = own.1 in
      record {
        front = r.floor.front;
        entry = r.entry;
        back = r.floor.back;
        is = r.floor.is;
        number = sym own.2 ∙ r.range_is.leaf;
      }

  module _ (below : is_below key end_key ≡ true) (route : Route)
      (routed : IsRoute key before.value.value.entries route) where
    abbrev y : IndexState
    y = knows.index_held.state

    abbrev fit : FitTogether z v y
    fit = fits y knows.index_held.has

    -- the route leads to the leaf in hand
    same_leaf : routed.entry.leaf ≡ leaf
    same_leaf = ap (λ (x : Entry). x.leaf) (one_floor key routed.floor.front routed.entry routed.floor.back
        own.1.floor.front own.1.entry own.1.floor.back (sym routed.floor.is ∙ own.1.floor.is) routed.floor.from
        own.1.floor.from routed.floor.above own.1.floor.above) ∙ sym own.1.range_is.leaf ∙ own.2

    floor : IsFloor key y.index.entries routed.entry
    floor = subst (λ (i : Index). IsFloor key i.entries routed.entry) knows.index_held.same routed.floor

    place : IsPlace key y.index.entries (record { leaf = routed.entry.leaf; segment = routed.segment })
    place = record { entry = routed.entry; floor = floor; leaf = refl; last = routed.last }

    inside : routed.entry.leaf < y.index.leaves
    inside = stands_inside z v y fit floor.front routed.entry floor.back floor.is

    segment_is : routed.segment ≡ route.cell % 8
    segment_is = let cell = routed.cell in let small = routed.last.within in omega (arith, cell, small)

    numbers : numbers_of ts ≡ numbers_from (8 * routed.entry.leaf) 8
    numbers = knows.numbers ∙ ap (λ n. numbers_from (8 * n) 8) (sym same_leaf)

    pub key_at : At (values_of ts) key (route.cell % 8)
    key_at =
        let cell = segment_of fit.cell in
        let l = located y.index (table_of fit.heap cell y.index.leaves) key
        (record { leaf = routed.entry.leaf; segment = routed.segment }) fit.indexed.kept place below in
        let same = same_before z v fit.cell fit.agrees (8 * routed.entry.leaf) 8 ts knows.known numbers in
        let parts = sym (segments_table fit.heap cell y.index.leaves routed.entry.leaf inside) ∙ l.segments in
        subst (At (values_of ts) key) (l.at ∙ segment_is)
        (same_at key l.before l.cell l.behind (values_of ts) (subst (λ ss. AreSame ss (values_of ts)) parts same)
        l.held)

    tied : IsTied (values_of ts) routed.entry (end_of floor.back)
    tied = values_tied z v y ts fit knows.known floor.front routed.entry floor.back floor.is inside numbers

    module _ (counts : List ℕ) (need : ℕ) (counted : counts ≡ counts_of (values_of ts)) where
      -- it has its places
      pub free_room : slice_index counts (route.cell % 8) + need ≤ SEGMENT_ROWS → HasRoom key need (values_of ts)
      free_room few =
          let a = key_at in
          let first = at_first (values_of ts) key (route.cell % 8) a routed.entry.low
          (tied_follow (values_of ts) routed.entry (end_of floor.back) tied
          (entry_cuts z v y ts fit knows.known floor.front routed.entry floor.back floor.is inside numbers)) tied.sound in
          let rows = ap (λ cs. slice_index cs (route.cell % 8)) counted ∙ at_count (values_of ts) key (route.cell % 8) a in
          let own_rows = ap (λ (c : VersionedRows). length c.rows) first in
          record {
            covered = ap (λ c. covers c key) first ∙ a.held;
            places = omega (arith, few, rows, own_rows);
          }

      module _ (window : Window) (is : IsSpread counts (route.cell % 8) need window) where
        smallest : IsSmallest (Fits (counts_of (values_of ts)) need) (route.cell % 8) window
        smallest = subst (λ cs. IsSmallest (Fits cs need) (route.cell % 8) window) counted is.smallest

        -- the window has few rows
        pub few_rows : length (rows_of (window_of window (values_of ts))) ≤ 30 * window.len
        few_rows = few_in_window need (route.cell % 8) window (values_of ts) smallest

        -- once it is spread the key's cell has its places
        pub spread_room : (ns : List VersionedRows) → need ≤ 2 → AreSound ns → SpreadsWindow window (values_of ts) ns
            → HasRoom key need ns
        spread_room ns small sound spreads =
            let a = key_at in
            let at = a.at in
            let from = is.round.from in
            let until = is.round.until in
            let r = room_in_spread window (values_of ts) ns tied.leaf tied.sound sound spreads (omega (arith, from, until))
            few_rows key a.before a.cell a.behind a.is a.held (omega (arith, from, at)) (omega (arith, until, at)) in
            let two = r.1 in
            record { covered = r.0; places = omega (arith, two, small) }

      -- no window has room for it
      pub crowded_at : IsCrowded counts (route.cell % 8) need
          → IsCrowdedAt key need before.value.value leaf (values_of ts)
      crowded_at crowded = record {
        segment = route.cell % 8;
        routed = record {
          entry = routed.entry;
          floor = routed.floor;
          number = sym same_leaf;
          last = subst (leaf_index.IsSegment routed.entry.cuts key) segment_is routed.last;
        };
        holds = at_holds (values_of ts) key (route.cell % 8) key_at;
        crowded = subst (λ cs. IsCrowded cs (route.cell % 8) need) counted crowded;
      }

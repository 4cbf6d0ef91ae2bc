-- Rows that move among the segments of a leaf, as the whole store sees it.
use Rattle.std.proofs.Common.{◌≡◌, ℕ, zero, suc, ◌+◌, ◌-◌, ◌*◌, ◌/◌, ◌%◌, ◌<◌, ◌≤◌, nat_lt, cond, List, [], ◌∷◌, ◌++◌, length, map, take, drop, refl, sym, ◌∙◌, ap, ap₂, subst, arith, inl, inr}
use Rattle.std.specs.Prelude.{Bool, true, false, ◌⊎◌}
use Rattle.std.specs.List.{AllByRecursion, range_with_len}
use Rattle.std.specs.FinMap.Entries.{find}
use Rattle.std.proofs.Math.Nat.{div-add-mod, mul-le-mul_left}
use Rattle.std.proofs.lemmas.Bool.Decides.{nat_tests}
use Rattle.std.proofs.lemmas.List.{append-nil, take-append-drop}
use Rattle.graph_model.proofs.PlaceLemmas.{drop_cut}
use Rattle.graph_model.specs.declared.limits.TheConstants.{SEGMENT_ROWS, SPLIT_ROWS}
use Rattle.graph_model.specs.declared.row.Key.{Key}
use Rattle.graph_model.specs.Rows.{key_cmp, first_key, end_key, is_below, is_between}
use Rattle.leaf_table.specs.VersionSegment.Rows.{VersionedRows, IsSegment, or_nothing}
use Rattle.density_tree.specs.declared.window.Window.{Window}
use Rattle.density_tree.specs.Division.{share_of, evenly}
use Rattle.leaf_table.specs.LeafArray.Segments.{rows_of, counts_of, lows_of, low_or, high_or, AreSame}
use Rattle.leaf_table.specs.LeafArray.Leaves.{IsLeaf, SpreadsWindow, window_of}
use Rattle.leaf_table.proofs.LeafArray.CountLemmas.{same-chained, same-rows, same-length, same-low, same-high}
use Rattle.leaf_table.proofs.LeafArray.LeafLemmas.{Follow, follow-of, follow-low, follow-front, follow-behind, own-low, no_key}
use Rattle.leaf_table.proofs.LeafArray.PairLemmas.{rows-append}
use Rattle.leaf_index.specs.Index.{Index, Entry, AreSorted, BeginBelow, IsIndex, NotAbove, end_of, first_or}
use Rattle.leaf_store.specs.Leaves.{Part, Leaves, AreLeaves, cells_of, cell_in, cell_at, weight}
use Rattle.leaf_store.specs.Changes.{MovesRows}
use Rattle.leaf_store.specs.Table.{AreStamped, IsKept, IsTied, AreTied, segments_at, part_of, leaves_of}
use Rattle.leaf_store.proofs.CellLemmas.{AreSound, holds, cell_here, few_in, held_in_both, middle_part, moved_cell}
use Rattle.leaf_store.proofs.ChangeLemmas.{high_between, same_sound}
use Rattle.leaf_store.proofs.ListLemmas.{all_front, all_back}
use Rattle.gap_segment.proofs.FencedLemmas.{all_append}
use Rattle.leaf_store.proofs.StoreLemmas.{cells_in, cells_follow, cells_split, versions_in_rows, weight_in, weight_one, weight_split}
use Rattle.leaf_store.proofs.TableLemmas.{Table, KeepsOthers, kept_leaves, one_entry, parts_append, parts_kept, tied_at, tied_front, tied_kept}

-- ---- room

-- for so many more rows a cell has room
abbrev pub room_of : VersionedRows → ℕ
room_of c = SEGMENT_ROWS - length c.rows

-- the cell of each key has as much room among the second cells, or room for two rows
abbrev pub KeepRoom : List VersionedRows → List VersionedRows → Type 0
KeepRoom ms ns = (q : Key) → (room_of (cell_in ms q) ≤ room_of (cell_in ns q)) ⊎ (2 ≤ room_of (cell_in ns q))

-- segments of at most 30 rows have it
pub few_keep_room : (ms ns : List VersionedRows) → AllByRecursion (λ c. length c.rows ≤ 30) ns → KeepRoom ms ns
few_keep_room ms ns few q = inr (omega (arith, few_in 30 q ns few))

-- so have those of which only the room for records has changed
pub same_keep_room : (ms ns : List VersionedRows) → AreSame ms ns → KeepRoom ms ns
same_keep_room ms ns same q = inl (omega (arith, ap length (same_cell ms ns same)))
  where
    same_cell : (ms ns : List VersionedRows) → AreSame ms ns → (cell_in ns q).rows ≡ (cell_in ms q).rows
    same_cell [] [] same = refl
    same_cell (m ∷ ms) (n ∷ ns) same =
        ap₂ (λ l h. (cond (is_between l h q) n (cell_in ns q)).rows) same.0.low same.0.high ∙ by_test (holds m q) (same_cell ms ns same.1)
      where
        by_test : (t : Bool) → (cell_in ns q).rows ≡ (cell_in ms q).rows → (cond t n (cell_in ns q)).rows ≡ (cond t m (cell_in ms q)).rows
        by_test true rest = same.0.rows
        by_test false rest = rest
    same_cell [] (n ∷ ns) same = absurd same
    same_cell (m ∷ ms) [] same = absurd same

-- cells around them don't matter
pub keep_room_around : (key : Key) (xs ms ns ys : List VersionedRows) → Follow (high_or xs key) ms → Follow (high_or xs key) ns → AreSound ms → AreSound ns → ((other : Key) → high_or ns other ≡ high_or ms other) → KeepRoom ms ns → KeepRoom (xs ++ (ms ++ ys)) (xs ++ (ns ++ ys))
keep_room_around key xs ms ns ys follow_m follow_n sound_m sound_n high room q =
    by_case (moved_cell key q xs ms ns ys follow_m follow_n sound_m sound_n high) (room q)
  where
    by_case : (cell_in (xs ++ (ns ++ ys)) q ≡ cell_in (xs ++ (ms ++ ys)) q) ⊎ ((cell_in (xs ++ (ns ++ ys)) q ≡ cell_in ns q) × (cell_in (xs ++ (ms ++ ys)) q ≡ cell_in ms q))
        → (room_of (cell_in ms q) ≤ room_of (cell_in ns q)) ⊎ (2 ≤ room_of (cell_in ns q))
        → (room_of (cell_in (xs ++ (ms ++ ys)) q) ≤ room_of (cell_in (xs ++ (ns ++ ys)) q)) ⊎ (2 ≤ room_of (cell_in (xs ++ (ns ++ ys)) q))
    by_case (inl same) has = inl (omega (arith, ap room_of same))
    by_case (inr both) (inl more) = inl (omega (arith, ap room_of both.0, ap room_of both.1, more))
    by_case (inr both) (inr two) = inr (omega (arith, ap room_of both.0, two))

-- ---- the segments of one leaf

-- other segments with the same rows between the same fence keys
pub record Respreads (ms ns : List VersionedRows) : Type 0 where
  pub leaf : IsLeaf ns
  pub sound : AreSound ns
  pub rows : rows_of ns ≡ rows_of ms
  pub low : (other : Key) → low_or ns other ≡ low_or ms other
  pub high : (other : Key) → high_or ns other ≡ high_or ms other
  pub room : KeepRoom ms ns

all_same_sound : (ms ns : List VersionedRows) → AreSame ms ns → AreSound ms → AreSound ns
all_same_sound [] [] same sound = tt
all_same_sound (m ∷ ms) (n ∷ ns) same sound = (same_sound m n sound.0 same.0, all_same_sound ms ns same.1 sound.1)
all_same_sound [] (n ∷ ns) same sound = absurd same
all_same_sound (m ∷ ms) [] same sound = absurd same

pub same_append : (xs xs' ys ys' : List VersionedRows) → AreSame xs xs' → AreSame ys ys' → AreSame (xs ++ ys) (xs' ++ ys')
same_append [] [] ys ys' one two = two
same_append (x ∷ xs) (x' ∷ xs') ys ys' one two = (one.0, same_append xs xs' ys ys' one.1 two)
same_append [] (x' ∷ xs') ys ys' one two = absurd one
same_append (x ∷ xs) [] ys ys' one two = absurd one

pub same_respreads : (ms ns : List VersionedRows) → IsLeaf ms → AreSound ms → AreSame ms ns → Respreads ms ns
same_respreads ms ns leaf sound same = record {
  leaf = record { segments = same-length ms ns same ∙ leaf.segments; chained = same-chained ms ns same leaf.chained };
  sound = all_same_sound ms ns same sound;
  rows = same-rows ms ns same;
  low = same-low ms ns same;
  high = same-high ms ns same;
  room = same_keep_room ms ns same;
}

pub same_lows : (ms ns : List VersionedRows) → AreSame ms ns → lows_of ns ≡ lows_of ms
same_lows [] [] same = refl
same_lows (m ∷ ms) (n ∷ ns) same = ap₂ (λ k ks. k ∷ ks) same.0.low (same_lows ms ns same.1)
same_lows [] (n ∷ ns) same = absurd same
same_lows (m ∷ ms) [] same = absurd same

-- cuts rise from a leaf's key to the end of its range
pub sorted_lows : (key : Key) (ss : List VersionedRows) → Follow key ss → AreSound ss → AreSorted (lows_of ss) (high_or ss key)
sorted_lows key [] follow sound = tt
sorted_lows key (s ∷ ss) follow sound = (next ss follow.1, sorted_lows s.high ss follow.1 sound.1)
  where
    next : (ss : List VersionedRows) → Follow s.high ss → NotAbove s.low (first_or (lows_of ss) (high_or ss s.high))
    next [] rest = sound.0.fences
    next (t ∷ ts) rest = subst (NotAbove s.low) (sym rest.0) sound.0.fences

-- ---- a window

share_at_most : (q r k segs rows : ℕ) → 1 ≤ segs → segs * q + r ≡ rows → rows ≤ 30 * segs → (30 ≤ q → segs * 30 ≤ segs * q) → (31 ≤ q → segs * 31 ≤ segs * q) → cond (nat_lt k r) (q + 1) q ≤ 30
share_at_most q r k segs rows some all few full more = grind (arith, nat_tests, full, more)

shares_at_most : (rows segs from n : ℕ) → 1 ≤ segs → rows ≤ 30 * segs → AllByRecursion (λ count. count ≤ 30) (map (share_of rows segs) (range_with_len from n))
shares_at_most rows segs from zero some few = tt
shares_at_most rows segs from (suc n) some few = (
  share_at_most (rows / segs) (rows % segs) from segs rows some (div-add-mod rows segs) few (λ h. mul-le-mul_left segs h) (λ h. mul-le-mul_left segs h),
  shares_at_most rows segs (from + 1) n some few,
)

all_counts : (cs : List VersionedRows) → AllByRecursion (λ count. count ≤ 30) (counts_of cs) → AllByRecursion (λ c. length c.rows ≤ 30) cs
all_counts [] few = tt
all_counts (c ∷ cs) few = (few.0, all_counts cs few.1)

-- of rows that are divided evenly each segment has at most 30
pub few_each : (rows segs : ℕ) (cs : List VersionedRows) → counts_of cs ≡ evenly rows segs → 1 ≤ segs → rows ≤ 30 * segs → AllByRecursion (λ c. length c.rows ≤ 30) cs
few_each rows segs cs shares some few =
    all_counts cs (subst (AllByRecursion (λ count. count ≤ 30)) (sym shares) (shares_at_most rows segs 0 segs some few))

-- a window that has the place of a cell has the cell
pub record Among (c : VersionedRows) (cs : List VersionedRows) : Type 0 where
  pub xs : List VersionedRows
  pub ys : List VersionedRows
  pub is : cs ≡ xs ++ c ∷ ys

among_first : (len : ℕ) (before : List VersionedRows) (c : VersionedRows) (behind : List VersionedRows) → length before < len → Among c (take len (before ++ c ∷ behind))
among_first zero before c behind lt = absurd (omega (arith, lt))
among_first (suc len) [] c behind lt = record { xs = []; ys = take len behind; is = refl }
among_first (suc len) (b ∷ before) c behind lt =
    let rest = among_first len before c behind (omega (arith, lt)) in
    record { xs = b ∷ rest.xs; ys = rest.ys; is = ap (λ cs. b ∷ cs) rest.is }

pub among_window : (first len : ℕ) (before : List VersionedRows) (c : VersionedRows) (behind : List VersionedRows) → first ≤ length before → length before < first + len → Among c (take len (drop first (before ++ c ∷ behind)))
among_window zero len before c behind le lt = among_first len before c behind (omega (arith, lt))
among_window (suc first) len [] c behind le lt = absurd (omega (arith, le))
among_window (suc first) len (b ∷ before) c behind le lt = among_window first len before c behind (omega (arith, le)) (omega (arith, lt))

pub low_append : (xs ys : List VersionedRows) (other : Key) → low_or (xs ++ ys) other ≡ low_or xs (low_or ys other)
low_append [] ys other = refl
low_append (x ∷ xs) ys other = refl

-- the segments around a window
pub in_window : (window : Window) (ss : List VersionedRows) → ss ≡ take window.first ss ++ (window_of window ss ++ drop (window.first + window.len) ss)
in_window window ss =
    sym (take-append-drop window.first ss) ∙ ap (λ cs. take window.first ss ++ cs) (drop_cut window.first window.len ss)

-- what a spread leaves, with the leaf in three parts
module _ (window : Window) (ss ns : List VersionedRows) (leaf : IsLeaf ss) (sound : AreSound ss) (sound' : AreSound ns) (spreads : SpreadsWindow window ss ns) (some : 1 ≤ window.len) (few : length (rows_of (window_of window ss)) ≤ 30 * window.len) where
  abbrev front : List VersionedRows
  front = take window.first ss

  abbrev ws : List VersionedRows
  ws = window_of window ss

  abbrev vs : List VersionedRows
  vs = window_of window ns

  abbrev rest : List VersionedRows
  rest = drop (window.first + window.len) ss

  abbrev begin : Key
  begin = low_or ss no_key

  abbrev cut : Key
  cut = high_or front begin

  old : ss ≡ front ++ (ws ++ rest)
  old = in_window window ss

  new : ns ≡ front ++ (vs ++ rest)
  new = in_window window ns ∙ (λ i. spreads.before i ++ (vs ++ spreads.behind i))

  follow_ws : Follow cut ws
  follow_ws = follow-front cut ws rest (follow-behind begin front (ws ++ rest) (subst (Follow begin) old (follow-of begin ss (own-low ss no_key) leaf.chained)))

  follow_vs : Follow cut vs
  follow_vs = follow-of cut vs (spreads.within.keeps.low cut ∙ follow-low cut ws follow_ws) spreads.within.keeps.chained

  sound_ws : AreSound ws
  sound_ws = all_front IsSegment ws rest (all_back IsSegment front (ws ++ rest) (subst AreSound old sound))

  sound_vs : AreSound vs
  sound_vs = all_front IsSegment vs rest (all_back IsSegment front (vs ++ rest) (subst AreSound new sound'))

  each : AllByRecursion (λ c. length c.rows ≤ 30) vs
  each = few_each (length (rows_of ws)) window.len vs spreads.within.shares some few

  low_kept : (other : Key) → low_or ns other ≡ low_or ss other
  low_kept other =
      ap (λ cs. low_or cs other) new ∙ low_append front (vs ++ rest) other ∙ ap (low_or front) (low_append vs rest other ∙ spreads.within.keeps.low (low_or rest other) ∙ sym (low_append ws rest other)) ∙ sym (low_append front (ws ++ rest) other) ∙ sym (ap (λ cs. low_or cs other) old)

  -- the same rows between the same fence keys, and room
  pub spread_respreads : Respreads ss ns
  spread_respreads =
      let keeps = spreads.within.keeps in
      record {
        leaf = spreads.leaf;
        sound = sound';
        rows = ap rows_of new ∙ rows-append front (vs ++ rest) ∙ ap (λ rows. rows_of front ++ rows) (rows-append vs rest ∙ ap (λ rows. rows ++ rows_of rest) keeps.rows ∙ sym (rows-append ws rest)) ∙ sym (rows-append front (ws ++ rest)) ∙ sym (ap rows_of old);
        low = low_kept;
        high = λ other. ap (λ cs. high_or cs other) new ∙ high_between front ws vs rest other keeps.high ∙ sym (ap (λ cs. high_or cs other) old);
        room = subst (λ cs. KeepRoom cs ns) (sym old) (subst (KeepRoom (front ++ (ws ++ rest))) (sym new) (keep_room_around begin front ws vs rest follow_ws follow_vs sound_ws sound_vs keeps.high (few_keep_room ws vs each)));
      }

  -- a key whose cell lies in the window has room for two rows
  pub room_in_spread : (key : Key) (before : List VersionedRows) (c : VersionedRows) (behind : List VersionedRows) → ss ≡ before ++ c ∷ behind → holds c key ≡ true → window.first ≤ length before → length before < window.first + window.len
      → (holds (cell_in ns key) key ≡ true) × (2 ≤ room_of (cell_in ns key))
  room_in_spread key before c behind at held from until =
      let keeps = spreads.within.keeps in
      let here : Among c ws = subst (λ cs. Among c (window_of window cs)) (sym at) (among_window window.first window.len before c behind from until) in
      let own : cell_in ws key ≡ c = ap (λ cs. cell_in cs key) here.is ∙ cell_here cut key here.xs c here.ys (subst (Follow cut) here.is follow_ws) (subst AreSound here.is sound_ws) held in
      let held_vs : holds (cell_in vs key) key ≡ true = held_in_both cut key ws vs follow_ws follow_vs sound_ws keeps.high (subst (λ x. holds x key ≡ true) (sym own) held) in
      let follow' : Follow begin (front ++ (vs ++ rest)) = subst (Follow begin) new (follow-of begin ns (low_kept begin ∙ own-low ss no_key) spreads.leaf.chained) in
      let now : cell_in ns key ≡ cell_in vs key = ap (λ cs. cell_in cs key) new ∙ middle_part begin key front vs rest follow' (subst AreSound new sound') held_vs in
      (subst (λ x. holds x key ≡ true) (sym now) held_vs, omega (arith, few_in 30 key vs each, ap room_of now))

-- ---- the store

-- some parts are others, whose rows are the same
pub moves_parts : (old new : Leaves) (before was is behind : List Part) → old.parts ≡ before ++ (was ++ behind) → new.parts ≡ before ++ (is ++ behind) → AreLeaves old → AreLeaves new
    → rows_of (cells_in is) ≡ rows_of (cells_in was) → ((other : Key) → high_or (cells_in is) other ≡ high_or (cells_in was) other) → KeepRoom (cells_in was) (cells_in is) → new.limit ≡ old.limit → weight new ≤ weight old → MovesRows old new
moves_parts old new before was is behind old_parts new_parts old_are new_are rows high room limit weight =
    let xs = cells_in before in
    let ms = cells_in was in
    let ns = cells_in is in
    let ys = cells_in behind in
    let old_cells : cells_of old ≡ xs ++ (ms ++ ys) = ap cells_in old_parts ∙ cells_split before was behind in
    let new_cells : cells_of new ≡ xs ++ (ns ++ ys) = ap cells_in new_parts ∙ cells_split before is behind in
    let cut = high_or xs first_key in
    let old_follow : Follow first_key (xs ++ (ms ++ ys)) = subst (Follow first_key) old_cells (cells_follow old old_are) in
    let new_follow : Follow first_key (xs ++ (ns ++ ys)) = subst (Follow first_key) new_cells (cells_follow new new_are) in
    let old_sound : AreSound (xs ++ (ms ++ ys)) = subst AreSound old_cells old_are.segments in
    let new_sound : AreSound (xs ++ (ns ++ ys)) = subst AreSound new_cells new_are.segments in
    let all : rows_of (cells_of new) ≡ rows_of (cells_of old) =
    ap rows_of new_cells ∙ rows-append xs (ns ++ ys) ∙ ap (λ rs. rows_of xs ++ rs) (rows-append ns ys ∙ ap (λ rs. rs ++ rows_of ys) rows ∙ sym (rows-append ms ys)) ∙ sym (rows-append xs (ms ++ ys)) ∙ sym (ap rows_of old_cells) in
    let around : KeepRoom (xs ++ (ms ++ ys)) (xs ++ (ns ++ ys)) = keep_room_around first_key xs ms ns ys (follow-front cut ms ys (follow-behind first_key xs (ms ++ ys) old_follow)) (follow-front cut ns ys (follow-behind first_key xs (ns ++ ys) new_follow))
    (all_front IsSegment ms ys (all_back IsSegment xs (ms ++ ys) old_sound)) (all_front IsSegment ns ys (all_back IsSegment xs (ns ++ ys) new_sound)) high room in
    let both : KeepRoom (cells_of old) (cells_of new) = subst (λ cs. KeepRoom cs (cells_of new)) (sym old_cells) (subst (KeepRoom (xs ++ (ms ++ ys))) (sym new_cells) around) in
    record {
      versions = λ q. versions_in_rows new q new_are ∙ ap (λ rs. or_nothing (find key_cmp q rs)) all ∙ sym (versions_in_rows old q old_are);
      room = both;
      limit = limit;
      weight = weight;
    }

-- ---- one leaf

pub record LeafMoved (index index' : Index) (table new : Table) : Type 0 where
  pub kept : IsKept index' new
  pub moves : MovesRows (leaves_of index table) (leaves_of index' new)

pub leaf_moved : (index index' : Index) (table new : Table) (front : List Entry) (e e' : Entry) (back : List Entry) (ns : List VersionedRows)
    → IsKept index table → index.entries ≡ front ++ e ∷ back → index'.entries ≡ front ++ e' ∷ back → e'.low ≡ e.low → e'.leaf ≡ e.leaf → lows_of ns ≡ e'.cuts → IsIndex index'
    → index'.leaves ≡ index.leaves → index'.free ≡ index.free → index'.retired ≡ index.retired → length new ≡ length table → KeepsOthers table new e.leaf → segments_at new e.leaf ≡ ns → Respreads (segments_at table e.leaf) ns → LeafMoved index index' table new
leaf_moved index index' table new front e e' back ns kept entries entries' low leaf cuts ready leaves free retired count keeps own respreads =
    let ss = segments_at table e.leaf in
    let others = one_entry index front e back kept.index_is.once entries in
    let tied = subst (AreTied table) entries kept.tied in
    let back_tied = tied_at table front (e ∷ back) tied in
    let now : segments_at new e'.leaf ≡ ns = ap (segments_at new) leaf ∙ own in
    let one : IsTied ns e' (end_of back) = record {
      leaf = respreads.leaf;
      sound = respreads.sound;
      cuts = cuts;
      ends = respreads.high e'.low ∙ ap (high_or ss) low ∙ back_tied.0.ends;
    } in
    let tied' : AreTied new (front ++ e' ∷ back) = tied_front table new e.leaf front (e ∷ back) (e' ∷ back) keeps others.0 tied low (subst (λ cs. IsTied cs e' (end_of back)) (sym now) one, tied_kept table new e.leaf back keeps others.1 back_tied.1) in
    let kept' : IsKept index' new = record {
      count = count ∙ kept.count ∙ sym leaves;
      index_is = ready;
      tied = subst (AreTied new) (sym entries') tied';
      stamps = subst AreStamped (sym retired) kept.stamps;
      begin =
          let was = subst (BeginBelow end_key) entries kept.begin in
          subst (BeginBelow end_key) (sym entries')
          (all_append (λ (x : Entry). is_below x.low end_key ≡ true) front (e' ∷ back) (all_front (λ (x : Entry). is_below x.low end_key ≡ true) front (e ∷ back) was)
          (let behind = all_back (λ (x : Entry). is_below x.low end_key ≡ true) front (e ∷ back) was in (ap (λ k. is_below k end_key) low ∙ behind.0, behind.1)));
    } in
    let old_parts = ap (map (part_of table)) entries ∙ parts_append table front (e ∷ back) in
    let kept_front = parts_kept table new e.leaf front keeps others.0 in
    let kept_back = parts_kept table new e.leaf back keeps others.1 in
    let new_parts = ap (map (part_of new)) entries' ∙ parts_append new front (e' ∷ back) ∙ (λ i. kept_front i ++ part_of new e' ∷ kept_back i) in
    let was = part_of table e in
    let is = part_of new e' in
    let rows : rows_of is.segments ≡ rows_of ss = ap rows_of now ∙ respreads.rows in
    let nil : (cs : List VersionedRows) → cs ++ [] ≡ cs = λ cs. append-nil cs in
    record {
      kept = kept';
      moves = moves_parts (leaves_of index table) (leaves_of index' new) (map (part_of table) front) (was ∷ []) (is ∷ []) (map (part_of table) back) old_parts new_parts (kept_leaves index table kept) (kept_leaves index' new kept')
          (ap rows_of (nil is.segments) ∙ rows ∙ sym (ap rows_of (nil ss)))
          (λ other. ap (λ cs. high_or cs other) (nil is.segments) ∙ ap (λ cs. high_or cs other) now ∙ respreads.high other ∙ sym (ap (λ cs. high_or cs other) (nil ss)))
          (subst (λ cs. KeepRoom cs (is.segments ++ [])) (sym (nil ss)) (subst (KeepRoom ss) (sym (nil is.segments ∙ now)) respreads.room))
          leaves
          (let old_weight = ap weight_in old_parts ∙ weight_split (map (part_of table) front) (was ∷ []) (map (part_of table) back) in
          let new_weight = ap weight_in new_parts ∙ weight_split (map (part_of table) front) (is ∷ []) (map (part_of table) back) in
          let idle : SPLIT_ROWS * (index'.leaves - 1 - length index'.free) ≡ SPLIT_ROWS * (index.leaves - 1 - length index.free) = ap₂ (λ l (f : List ℕ). SPLIT_ROWS * (l - 1 - length f)) leaves free in
          omega (arith, old_weight, new_weight, weight_one was, weight_one is, ap length rows, idle));
    }

-- the key's cell, where its leaf has these segments
pub cell_in_leaf : (index : Index) (table : Table) (front : List Entry) (e : Entry) (back : List Entry) (key : Key) (ns : List VersionedRows) → IsKept index table → index.entries ≡ front ++ e ∷ back → segments_at table e.leaf ≡ ns → holds (cell_in ns key) key ≡ true
    → cell_at (leaves_of index table) key ≡ cell_in ns key
cell_in_leaf index table front e back key ns kept entries own held =
    let parts = ap (map (part_of table)) entries ∙ parts_append table front (e ∷ back) in
    let xs = cells_in (map (part_of table) front) in
    let ys = cells_in (map (part_of table) back) in
    let cells : cells_of (leaves_of index table) ≡ xs ++ (ns ++ ys) =
    ap cells_in parts ∙ cells_split (map (part_of table) front) (part_of table e ∷ []) (map (part_of table) back) ∙ ap (λ cs. xs ++ (cs ++ ys)) (append-nil (segments_at table e.leaf) ∙ own) in
    let are = kept_leaves index table kept in
    ap (λ cs. cell_in cs key) cells ∙ middle_part first_key key xs ns ys (subst (Follow first_key) cells (cells_follow (leaves_of index table) are)) (subst AreSound cells are.segments) held

-- Live leaves by their entries: where the cell of a key stands, and what becomes of them where one leaf changes.
use Rattle.std.proofs.Common.{◌≡◌, ◌≢◌, ℕ, zero, suc, ◌<◌, ◌==◌, List, [], ◌∷◌, ◌++◌, Option, Some, length, map, set, count_by, refl, sym, ◌∙◌, ap, subst, arith}
use Rattle.std.specs.Prelude.{Bool, true, false, slice_get}
use Rattle.std.specs.List.{AllByRecursion}
use Rattle.std.specs.declared.boxed.Box.{Box}
use Rattle.std.specs.declared.alloc.Global.{Global}
use Rattle.std.proofs.lemmas.Bool.{eq-eqb}
use Rattle.std.proofs.lemmas.List.{map-append}
use Rattle.graph_model.specs.declared.row.Key.{Key}
use Rattle.graph_model.specs.Rows.{is_below, first_key, end_key}
use Rattle.graph_model.proofs.KeyLemmas.{between_of}
use Rattle.graph_model.proofs.PlaceLemmas.{some_eq}
use Rattle.leaf_table.specs.VersionSegment.Rows.{VersionedRows, IsSegment}
use Rattle.leaf_table.specs.LeafArrayDeclared.leaf.Leaf.{Leaf}
use Rattle.leaf_table.specs.LeafArray.Segments.{lows_of, low_or, high_or}
use Rattle.leaf_table.proofs.LeafArray.LeafLemmas.{Follow, follow-of, follow-chained, follow-both}
use Rattle.leaf_table.proofs.LeafArray.PairLemmas.{high-append}
use Rattle.leaf_index.specs.Index.{Index, Entry, AreCuts, AreOnce, BeginAbove, HaveCuts, end_of}
use Rattle.leaf_index.proofs.CountLemmas.{count_append, count_cons, none_counted, at_most_one, worth}
use Rattle.leaf_table.specs.declared.place.Place.{Place}
use Rattle.leaf_store.specs.Leaves.{Part, AreLeaves, IsPart, cells_of}
use Rattle.leaf_store.specs.Table.{IsKept, IsTied, AreTied, IsPlace, segments_or_none, segments_at, part_of, leaves_of}
use Rattle.leaf_store.proofs.CellLemmas.{AreSound, holds}
use Rattle.leaf_queue.proofs.ListLemmas.{get_set_other}
use Rattle.gap_segment.proofs.FencedLemmas.{all_append}
use Rattle.leaf_store.proofs.StoreLemmas.{cells_in}

-- what stands by the numbers of leaves
abbrev pub Table : Type 0
Table = List (Option (Box Leaf Global))

-- ---- one leaf

-- a leaf's segments follow each other from its entry's key
pub tied_follow : (ss : List VersionedRows) (e : Entry) (high : Key) → IsTied ss e high → AreCuts e.low e.cuts high → Follow e.low ss
tied_follow ss e high tied cuts = follow-of e.low ss (low_is ss e.cuts tied.cuts cuts.begin) tied.leaf.chained
  where
    low_is : (ss : List VersionedRows) (cuts : List Key) → lows_of ss ≡ cuts → slice_get cuts 0 ≡ Some e.low → low_or ss e.low ≡ e.low
    low_is [] cuts lows begin = refl
    low_is (s ∷ ss) cuts lows begin = some_eq s.low e.low (ap (λ ks. slice_get ks 0) lows ∙ begin)

-- ---- all leaves

-- the cells of live leaves follow each other up to the last key
pub record AreCells (es : List Entry) (parts : List Part) : Type 0 where
  pub follow : Follow (end_of es) (cells_in parts)
  pub sound : AreSound (cells_in parts)
  pub high : high_or (cells_in parts) (end_of es) ≡ end_key
  pub eight : AllByRecursion IsPart parts

pub are_cells : (table : Table) (es : List Entry) → AreTied table es → HaveCuts es → AreCells es (map (part_of table) es)
are_cells table [] tied cuts = record { follow = tt; sound = tt; high = refl; eight = tt }
are_cells table (e ∷ es) tied cuts =
    let ss = segments_at table e.leaf in
    let rest = are_cells table es tied.1 cuts.1 in
    let cells = cells_in (map (part_of table) es) in
    record {
      follow = follow-both e.low ss cells (tied_follow ss e (end_of es) tied.0 cuts.0) (subst (λ k. Follow k cells) (sym tied.0.ends) rest.follow);
      sound = all_append IsSegment ss cells tied.0.sound rest.sound;
      high = high-append ss cells e.low ∙ ap (high_or cells) tied.0.ends ∙ rest.high;
      eight = (tied.0.leaf.segments, rest.eight);
    }

-- what is kept shows leaves of a store
pub kept_leaves : (index : Index) (table : Table) → IsKept index table → AreLeaves (leaves_of index table)
kept_leaves index table kept =
    let are = are_cells table index.entries kept.tied kept.index_is.cuts in
    let first = kept.index_is.first in
    let cells = cells_of (leaves_of index table) in
    record {
      parts = are.eight;
      segments = are.sound;
      chained = follow-chained (end_of index.entries) cells are.follow;
      low = low_first (end_of index.entries) cells are.follow are.high first;
      high = subst (λ k. high_or cells k ≡ end_key) first are.high;
    }
  where
    low_first : (key : Key) (cs : List VersionedRows) → Follow key cs → high_or cs key ≡ end_key → key ≡ first_key → low_or cs end_key ≡ first_key
    low_first key [] follow high first = sym high ∙ first
    low_first key (c ∷ cs) follow high first = follow.0 ∙ first

-- ---- where a key's cell stands

-- the cut of a segment stands where the segment does
pub record CutAt (ss : List VersionedRows) (segment : ℕ) (cut : Key) : Type 0 where
  pub before : List VersionedRows
  pub cell : VersionedRows
  pub behind : List VersionedRows
  pub is : ss ≡ before ++ cell ∷ behind
  pub at : length before ≡ segment
  pub low : cell.low ≡ cut

cell_of_cut : (ss : List VersionedRows) (segment : ℕ) (cut : Key) → slice_get (lows_of ss) segment ≡ Some cut → CutAt ss segment cut
cell_of_cut [] segment cut there = cc
cell_of_cut (s ∷ ss) zero cut there = record { before = []; cell = s; behind = ss; is = refl; at = refl; low = some_eq s.low cut there }
cell_of_cut (s ∷ ss) (suc segment) cut there =
    let rest = cell_of_cut ss segment cut there in
    record { before = s ∷ rest.before; cell = rest.cell; behind = rest.behind; is = ap (λ cs. s ∷ cs) rest.is; at = ap suc rest.at; low = rest.low }

-- all cuts behind a cell are above the key, and so is the end of the last one
below_end : (key low high : Key) (before : List VersionedRows) (c : VersionedRows) (behind : List VersionedRows) → Follow low (before ++ c ∷ behind) → high_or (before ++ c ∷ behind) low ≡ high → is_below key high ≡ true
    → ((s : ℕ) (k : Key) → length before < s → slice_get (lows_of (before ++ c ∷ behind)) s ≡ Some k → is_below key k ≡ true) → is_below key c.high ≡ true
below_end key low high [] c [] follow ends below later = ap (is_below key) ends ∙ below
below_end key low high [] c (d ∷ behind) follow ends below later = ap (is_below key) (sym follow.1.0) ∙ later 1 d.low (omega arith) refl
below_end key low high (b ∷ before) c behind follow ends below later =
    below_end key b.high high before c behind follow.1 ends below (λ s k lt there. later (suc s) k (omega (arith, lt)) there)

-- the cell of a key, among the segments of a live leaf between others
pub record Located (index : Index) (table : Table) (key : Key) (place : Place) : Type 0 where
  pub front : List Entry
  pub entry : Entry
  pub back : List Entry
  pub entries : index.entries ≡ front ++ entry ∷ back
  pub leaf : place.leaf ≡ entry.leaf
  pub before : List VersionedRows
  pub cell : VersionedRows
  pub behind : List VersionedRows
  pub segments : segments_at table place.leaf ≡ before ++ cell ∷ behind
  pub at : length before ≡ place.segment
  pub within : place.segment < 8
  pub held : holds cell key ≡ true

pub tied_at : (table : Table) (front back : List Entry) → AreTied table (front ++ back) → AreTied table back
tied_at table [] back tied = tied
tied_at table (e ∷ front) back tied = tied_at table front back tied.1

pub cuts_at : (front back : List Entry) → HaveCuts (front ++ back) → HaveCuts back
cuts_at [] back cuts = cuts
cuts_at (e ∷ front) back cuts = cuts_at front back cuts.1

-- the range that holds a key ends above it
pub end_above : (key : Key) (back : List Entry) → BeginAbove key back → is_below key end_key ≡ true → is_below key (end_of back) ≡ true
end_above key [] above below = below
end_above key (e ∷ back) above below = above.0

pub located : (index : Index) (table : Table) (key : Key) (place : Place) → IsKept index table → IsPlace key index.entries place → is_below key end_key ≡ true → Located index table key place
located index table key place kept is below =
    let f = is.floor in
    let ss = segments_at table is.entry.leaf in
    let tied = (tied_at table f.front (is.entry ∷ f.back) (subst (AreTied table) f.is kept.tied)).0 in
    let cuts = (cuts_at f.front (is.entry ∷ f.back) (subst HaveCuts f.is kept.index_is.cuts)).0 in
    let c = cell_of_cut ss place.segment is.last.cut (ap (λ ks. slice_get ks place.segment) tied.cuts ∙ is.last.there) in
    let follow : Follow is.entry.low (c.before ++ c.cell ∷ c.behind) = subst (Follow is.entry.low) c.is (tied_follow ss is.entry (end_of f.back) tied cuts) in
    let ends : high_or (c.before ++ c.cell ∷ c.behind) is.entry.low ≡ end_of f.back = ap (λ cs. high_or cs is.entry.low) (sym c.is) ∙ tied.ends in
    let lows : lows_of (c.before ++ c.cell ∷ c.behind) ≡ is.entry.cuts = ap lows_of (sym c.is) ∙ tied.cuts in
    let until = below_end key is.entry.low (end_of f.back) c.before c.cell c.behind follow ends (end_above key f.back f.above below)
    (λ s k lt there. is.last.later s k (omega (arith, lt, c.at)) (ap (λ ks. slice_get ks s) (sym lows) ∙ there)) in
    record {
      front = f.front;
      entry = is.entry;
      back = f.back;
      entries = f.is;
      leaf = is.leaf;
      before = c.before;
      cell = c.cell;
      behind = c.behind;
      segments = ap (segments_at table) is.leaf ∙ c.is;
      at = c.at;
      within = is.last.within;
      held = between_of c.cell.low c.cell.high key (subst (λ k. is_below key k ≡ false) (sym c.low) is.last.from) until;
    }

-- ---- one leaf changes

-- none of the leaves has this number
abbrev pub OtherLeaves : ℕ → List Entry → Type 0
OtherLeaves leaf es = AllByRecursion (λ e. e.leaf ≢ leaf) es

-- a live leaf has one entry
pub one_entry : (index : Index) (front : List Entry) (e : Entry) (back : List Entry) → AreOnce index → index.entries ≡ front ++ e ∷ back → OtherLeaves e.leaf front × OtherLeaves e.leaf back
one_entry index front e back once is =
    let p : Entry → Bool = λ x. x.leaf == e.leaf in
    let whole = ap (count_by p) is in
    let parts = count_append p front (e ∷ back) in
    let here = count_cons p e back in
    let one = ap worth (eq-eqb e.leaf e.leaf refl) in
    let all = once e.leaf in
    let top = at_most_one e.leaf index.leaves in
    (none_counted (λ (x : Entry). x.leaf) e.leaf front (omega (arith, whole, parts, here, one, all, top)), none_counted (λ (x : Entry). x.leaf) e.leaf back (omega (arith, whole, parts, here, one, all, top)))

-- the segments of all other leaves are as they were
abbrev pub KeepsOthers : Table → Table → ℕ → Type 0
KeepsOthers table new leaf = (other : ℕ) → other ≢ leaf → segments_at new other ≡ segments_at table other

pub parts_kept : (table new : Table) (leaf : ℕ) (es : List Entry) → KeepsOthers table new leaf → OtherLeaves leaf es → map (part_of new) es ≡ map (part_of table) es
parts_kept table new leaf [] keeps others = refl
parts_kept table new leaf (e ∷ es) keeps others =
    let first : part_of new e ≡ part_of table e = λ i. record { leaf = e.leaf; segments = keeps e.leaf others.0 i } in
    λ i. first i ∷ parts_kept table new leaf es keeps others.1 i

pub tied_kept : (table new : Table) (leaf : ℕ) (es : List Entry) → KeepsOthers table new leaf → OtherLeaves leaf es → AreTied table es → AreTied new es
tied_kept table new leaf [] keeps others tied = tt
tied_kept table new leaf (e ∷ es) keeps others tied =
    (subst (λ ss. IsTied ss e (end_of es)) (sym (keeps e.leaf others.0)) tied.0, tied_kept table new leaf es keeps others.1 tied.1)

-- other entries stand behind these, and begin where those began
pub tied_front : (table new : Table) (leaf : ℕ) (front es fs : List Entry) → KeepsOthers table new leaf → OtherLeaves leaf front → AreTied table (front ++ es) → end_of fs ≡ end_of es → AreTied new fs → AreTied new (front ++ fs)
tied_front table new leaf [] es fs keeps others tied same rest = rest
tied_front table new leaf (e ∷ front) es fs keeps others tied same rest = (
  subst (IsTied (segments_at new e.leaf) e) (begin front) (subst (λ ss. IsTied ss e (end_of (front ++ es))) (sym (keeps e.leaf others.0)) tied.0),
  tied_front table new leaf front es fs keeps others.1 tied.1 same rest,
)
  where
    begin : (front : List Entry) → end_of (front ++ es) ≡ end_of (front ++ fs)
    begin [] = sym same
    begin (f ∷ front) = refl

pub parts_append : (table : Table) (xs ys : List Entry) → map (part_of table) (xs ++ ys) ≡ map (part_of table) xs ++ map (part_of table) ys
parts_append table xs ys = map-append (part_of table) xs ys

-- one leaf has other memory
pub others_kept : (table : Table) (leaf : ℕ) (x : Option (Box Leaf Global)) → KeepsOthers table (set table leaf x) leaf
others_kept table leaf x other ne = ap segments_or_none (get_set_other table leaf other x ne)

-- the parts, where the memory of one leaf is other segments
pub other_leaf : (index : Index) (table new : Table) (front : List Entry) (e e' : Entry) (back : List Entry) (ns : List VersionedRows) (entries : List Entry) → IsKept index table → index.entries ≡ front ++ e ∷ back → entries ≡ front ++ e' ∷ back → e'.leaf ≡ e.leaf → KeepsOthers table new e.leaf → segments_at new e.leaf ≡ ns
    → map (part_of new) entries ≡ map (part_of table) front ++ record { leaf = e.leaf; segments = ns } ∷ map (part_of table) back
other_leaf index table new front e e' back ns entries kept was is same keeps own =
    let others = one_entry index front e back kept.index_is.once was in
    let kept_front = parts_kept table new e.leaf front keeps others.0 in
    let kept_back = parts_kept table new e.leaf back keeps others.1 in
    let own' : segments_at new e'.leaf ≡ ns = ap (segments_at new) same ∙ own in
    ap (map (part_of new)) is ∙ parts_append new front (e' ∷ back) ∙ (λ i. kept_front i ++ record { leaf = same i; segments = own' i } ∷ kept_back i)

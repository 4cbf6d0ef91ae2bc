-- Windows and neighbours that were found, by their entries in the index. Only the crate itself speaks of it.
use Rattle.std.specs.Prelude.{◌≡◌, ℕ, ◌+◌, ◌≤◌, true, length, List, [], ◌∷◌, ◌++◌, Option, map}
use Rattle.std.specs.declared.boxed.Box.{Box}
use Rattle.std.specs.declared.alloc.Global.{Global}
use Rattle.graph_model.specs.declared.row.Key.{Key}
use Rattle.graph_model.specs.Rows.{is_below}
use Rattle.leaf_table.specs.VersionSegment.Rows.{VersionedRows}
use Rattle.leaf_table.specs.LeafArrayDeclared.leaf.Leaf.{Leaf}
use Rattle.leaf_table.specs.LeafArray.Leaves as leaves
use Rattle.leaf_table.specs.LeafArray.Segments.{rows_of, counts_of, lows_of}
use Rattle.leaf_index.specs.declared.route.LeafRange.{LeafRange}
use Rattle.leaf_index.specs.Calls.{IsRangeOf}
use Rattle.leaf_index.specs.Index.{Entry, Index, AreCuts, end_of}
use Rattle.leaf_store.specs.declared.pair.Pair.{Pair}
use Rattle.leaf_store.specs.declared.pair.TheConstants.{MERGE_ROWS}
use Rattle.leaf_store.specs.declared.sparse.SparseWindow.{SparseWindow}
use Rattle.density_tree.specs.declared.window.Window.{Window}
use Rattle.leaf_store.specs.Leaves.{Leaves, Part}
use Rattle.leaf_store.specs.Merging.{AreApart, AreLevel, IsApart, IsLeftmostWindow, MergesTwo}
use Rattle.leaf_store.specs.Table.{IsTied, part_of, segments_at}

-- a live leaf's entry stands among others
pub record Stands (entries : List Entry) (leaf : ℕ) : Type 0 where
  pub front : List Entry
  pub entry : Entry
  pub back : List Entry
  pub is : entries ≡ front ++ entry ∷ back
  pub number : leaf ≡ entry.leaf

-- no leaf before the one with this number has a sparse window
abbrev pub AreLevelBefore : List Part → ℕ → Type 0
AreLevelBefore parts leaf = (front : List Part) (part : Part) (back : List Part)
    → parts ≡ front ++ part ∷ back → part.leaf ≡ leaf → AreLevel front

-- the first sparse window in key order, by the number of its leaf
pub record IsFoundWindow (index : Index) (table : List (Option (Box Leaf Global))) (found : SparseWindow) : Type 0 where
  pub stands : Stands index.entries found.leaf
  pub before : AreLevelBefore (map (part_of table) index.entries) found.leaf
  pub leftmost : IsLeftmostWindow (counts_of (segments_at table found.leaf)) found.window

-- the window of the live leaf with this number and these segments is spread, and all else is as it was
pub record SpreadsLeaf (window : Window) (leaf : ℕ) (ss : List VersionedRows) (old new : Leaves) : Type 0 where
  pub front : List Part
  pub part : Part
  pub back : List Part
  pub segments : List VersionedRows
  pub was : old.parts ≡ front ++ part ∷ back
  pub now : new ≡ record old { parts = front ++ record part { segments = segments } ∷ back }
  pub number : part.leaf ≡ leaf
  pub same : part.segments ≡ ss
  pub spreads : leaves.SpreadsWindow window ss segments

-- the rows of the live leaf with these segments are divided between it and the next free one, and all else is as it was
pub record HalvesLeaf (ss : List VersionedRows) (old new : Leaves) : Type 0 where
  pub front : List Part
  pub part : Part
  pub back : List Part
  pub leaf : ℕ
  pub low : Key
  pub left : List VersionedRows
  pub right : List VersionedRows
  pub was : old.parts ≡ front ++ part ∷ back
  pub same : part.segments ≡ ss
  pub free : old.free ≡ new.free ++ leaf ∷ []
  pub splits : leaves.Splits ss left right low
  pub now : new ≡ record old {
    parts = front ++ record part { segments = left } ∷ record { leaf = leaf; segments = right } ∷ back;
    free = new.free;
  }

-- the range is that of a live leaf
pub record IsRangeIn (entries : List Entry) (range : LeafRange) : Type 0 where
  pub front : List Entry
  pub entry : Entry
  pub back : List Entry
  pub is : entries ≡ front ++ entry ∷ back
  pub range_is : IsRangeOf entry back range

-- this leaf has too many rows to become one with the next
abbrev pub IsApartBehind : List Entry → List (Option (Box Leaf Global)) → LeafRange → Type 0
IsApartBehind entries table range = (front : List Entry) (entry : Entry) (back : List Entry)
    → entries ≡ front ++ entry ∷ back → IsRangeOf entry back range
    → IsApart (part_of table entry) (map (part_of table) back)

-- two live leaves, one behind the other, have few rows together
pub record IsFoundPair (index : Index) (table : List (Option (Box Leaf Global))) (pair : Pair) : Type 0 where
  pub front : List Entry
  pub left : Entry
  pub right : Entry
  pub back : List Entry
  pub is : index.entries ≡ front ++ left ∷ right ∷ back
  pub left_is : pair.left ≡ left.leaf
  pub right_is : pair.right ≡ right.leaf
  pub few : length (rows_of (segments_at table left.leaf)) + length (rows_of (segments_at table right.leaf))
      ≤ MERGE_ROWS

-- and the left one has this range
pub record IsPairBehind (index : Index) (table : List (Option (Box Leaf Global))) (range : LeafRange) (pair : Pair)
    : Type 0 where
  pub found : IsFoundPair index table pair
  pub range_is : IsRangeOf found.left (found.right ∷ found.back) range

-- and the left one begins before this key
pub record IsPairAhead (index : Index) (table : List (Option (Box Leaf Global))) (key : Key) (pair : Pair)
    : Type 0 where
  pub found : IsFoundPair index table pair
  pub below : is_below found.left.low key ≡ true

-- no leaf has a sparse window, and the two are the first neighbours in key order with few rows
pub record IsFirstFoundPair (index : Index) (table : List (Option (Box Leaf Global))) (pair : Pair) : Type 0 where
  pub found : IsFoundPair index table pair
  pub level : AreLevel (map (part_of table) index.entries)
  pub apart : AreApart (map (part_of table) (found.front ++ found.left ∷ []))

-- the segments are those of two entries, one behind the other
pub record AreNeighbours (entries : List Entry) (ss ts : List VersionedRows) (number : ℕ) : Type 0 where
  pub front : List Entry
  pub left : Entry
  pub right : Entry
  pub back : List Entry
  pub is : entries ≡ front ++ left ∷ right ∷ back
  pub number_is : right.leaf ≡ number
  pub left_tied : IsTied ss left right.low
  pub right_tied : IsTied ts right (end_of back)
  pub left_cuts : AreCuts left.low left.cuts right.low
  pub right_cuts : AreCuts right.low right.cuts (end_of back)

-- the left one has all rows and the range of both, and the right one is retired
pub record MergesEntries (stamp number : ℕ) (old new : Index) (ss ts us : List VersionedRows)
    (live : AreNeighbours old.entries ss ts number) : Type 0 where
  pub rest : List VersionedRows
  pub merges : leaves.Merges ss ts us rest
  pub entries : new.entries ≡ live.front ++ record live.left { cuts = lows_of us } ∷ live.back
  pub index_is : new ≡ record old {
    entries = new.entries;
    retired = old.retired ++ record { leaf = number; stamp = stamp } ∷ [];
  }

-- the first two neighbours with few rows become one leaf, with this number
pub record MergesLeaf (leaf : ℕ) (old new : Leaves) (stamp : ℕ) : Type 0 where
  pub two : MergesTwo old new stamp
  pub number : two.left.leaf ≡ leaf

-- What a spread and a split of a live leaf need, and what they do. Only the crate itself speaks of it.
use Rattle.std.specs.Prelude.{◌≡◌, ℕ, ◌*◌, ◌≤◌, true, length, List, Option}
use Rattle.std.specs.declared.boxed.Box.{Box}
use Rattle.std.specs.declared.alloc.Global.{Global}
use Rattle.graph_model.specs.declared.row.Key.{Key}
use Rattle.graph_model.specs.Rows.{is_below, end_key}
use Rattle.density_tree.specs.declared.window.Window.{Window}
use Rattle.leaf_index.specs.Index.{Index}
use Rattle.leaf_table.specs.LeafArrayDeclared.leaf.Leaf.{Leaf}
use Rattle.leaf_table.specs.LeafArray.Leaves.{IsWindow, window_of}
use Rattle.leaf_table.specs.LeafArray.Segments.{AreSame, rows_of}
use Rattle.leaf_table.specs.VersionSegment.Rows.{VersionedRows}
use Rattle.leaf_table.specs.declared.place.Place.{Place}
use Rattle.leaf_store.specs.Changes.{MovesRows}
use Rattle.leaf_store.specs.Leaves.{Leaves, room_at}
use Rattle.leaf_store.specs.Pairs.{HalvesLeaf, SpreadsLeaf, Stands}
use Rattle.leaf_store.specs.Ranges.{DividesLeaf, HasRoomWithin, KeepsLeaves}
use Rattle.leaf_store.specs.Table.{IsKept, IsPlace, leaves_of, segments_at}

-- ---- a spread

-- the leaf is live, and the rows of its window leave room for two in each segment
pub record CanSpread (window : Window) (leaf : ℕ) (index : Index) (table : List (Option (Box Leaf Global)))
    : Type 0 where
  pub stands : Stands index.entries leaf
  pub within : IsWindow window
  pub few : length (rows_of (window_of window (segments_at table leaf))) ≤ 30 * window.len

-- the window is spread, and each segment of it has room for two rows
pub record SpreadsThere (window : Window) (leaf : ℕ) (index : Index) (table : List (Option (Box Leaf Global)))
    (new : Leaves) : Type 0 where
  pub room : HasRoomWithin window leaf index.entries new
  pub spreads : SpreadsLeaf window leaf (segments_at table leaf) (leaves_of index table) new

-- at most rows have moved, and of the index only entries have changed
pub record MovesWithin (index index' : Index) (table table' : List (Option (Box Leaf Global))) : Type 0 where
  pub kept : IsKept index' table'
  pub moves : MovesRows (leaves_of index table) (leaves_of index' table')
  pub others : index' ≡ record index { entries = index'.entries }

-- ---- a split

-- the place is that of a key, and its leaf has too many rows for any window to have room
pub record CanSplit (place : Place) (index : Index) (table : List (Option (Box Leaf Global))) : Type 0 where
  pub key : Key
  pub at : IsPlace key index.entries place
  pub below : is_below key end_key ≡ true
  pub many : 207 ≤ length (rows_of (segments_at table place.leaf))

-- each key whose cell stood at the place has room for two rows
abbrev pub HasRoomThere : Place → Index → Leaves → Type 0
HasRoomThere place index new = (key : Key) → IsPlace key index.entries place → is_below key end_key ≡ true
    → 2 ≤ room_at new key

-- the leaf has become two, the other one with this number
pub record SplitsThere (place : Place) (other : ℕ) (index index' : Index)
    (table table' : List (Option (Box Leaf Global))) : Type 0 where
  pub room : HasRoomThere place index (leaves_of index' table')
  pub divides : DividesLeaf place.leaf other (leaves_of index table) (leaves_of index' table')
  pub halves : HalvesLeaf (segments_at table place.leaf) (leaves_of index table) (leaves_of index' table')

-- at most rows have moved, and no leaf was retired
pub record MovesAcross (index index' : Index) (table table' : List (Option (Box Leaf Global))) : Type 0 where
  pub kept : IsKept index' table'
  pub moves : MovesRows (leaves_of index table) (leaves_of index' table')
  pub retired : index'.retired ≡ index.retired

-- the index is as it was, and of one leaf only the room for records has changed
pub record KeepsOne (index index' : Index) (table table' : List (Option (Box Leaf Global))) (leaf : ℕ) : Type 0 where
  pub same : index' ≡ index
  pub keeps : KeepsLeaves table table' leaf

-- ---- neighbours that don't become one leaf

-- the index is as it was, and of two leaves only the room for records has changed
pub record KeepsTwo (index index' : Index) (ss ss' ts ts' : List VersionedRows) : Type 0 where
  pub same : index' ≡ index
  pub left : AreSame ss ss'
  pub right : AreSame ts ts'

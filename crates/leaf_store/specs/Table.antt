-- What stands by the numbers of leaves. Only the crate itself speaks of it.
use Rattle.std.specs.Prelude.{◌≡◌, ℕ, ◌<◌, List, [], ◌∷◌, map, Option, Some, None, slice_get, length}
use Rattle.std.specs.List.{AllByRecursion}
use Rattle.std.specs.declared.boxed.Box.{Box}
use Rattle.std.specs.declared.alloc.Global.{Global}
use Rattle.leaf_table.specs.VersionSegment.Rows.{VersionedRows, IsSegment}
use Rattle.leaf_table.specs.LeafArrayDeclared.leaf.Leaf.{Leaf}
use Rattle.leaf_table.specs.LeafArray.Leaves.{IsLeaf}
use Rattle.leaf_table.specs.LeafArray.Segments.{counts_of, lows_of, high_or}
use Rattle.density_tree.specs.declared.window.Window.{Window}
use Rattle.density_tree.specs.Windows.{Fits, IsSmallestWindow}
use Rattle.graph_model.specs.declared.row.Key.{Key}
use Rattle.graph_model.specs.Rows.{end_key}
use Rattle.leaf_index.specs.declared.route.Retired.{Retired}
use Rattle.leaf_index.specs.Index as leaf_index
use Rattle.leaf_index.specs.Index.{Index, Entry, BeginBelow, IsFloor, IsIndex, end_of}
use Rattle.leaf_store.specs.declared.pair.TheConstants.{STAMPS_END}
use Rattle.leaf_table.specs.declared.place.Place.{Place}
use Rattle.leaf_store.specs.Leaves.{Leaves, Part}

abbrev pub segments_or_none : Option (Option (Box Leaf Global)) → List VersionedRows
segments_or_none None = []
segments_or_none (Some None) = []
segments_or_none (Some (Some leaf)) = leaf.value.segments

-- the segments of the leaf with this number, or none where it has no memory
abbrev pub segments_at : List (Option (Box Leaf Global)) → ℕ → List VersionedRows
segments_at table leaf = segments_or_none (slice_get table leaf)

-- a live leaf, from its entry in the index
abbrev pub part_of : List (Option (Box Leaf Global)) → Entry → Part
part_of table entry = record { leaf = entry.leaf; segments = segments_at table entry.leaf }

abbrev pub leaves_of : Index → List (Option (Box Leaf Global)) → Leaves
leaves_of index table = record {
  limit = index.leaves;
  parts = map (part_of table) index.entries;
  free = index.free;
  retired = index.retired;
}

-- a live leaf's segments begin with the cuts of its entry, and end where the next entry begins
pub record IsTied (segments : List VersionedRows) (entry : Entry) (high : Key) : Type 0 where
  pub leaf : IsLeaf segments
  pub sound : AllByRecursion IsSegment segments
  pub cuts : lows_of segments ≡ entry.cuts
  pub ends : high_or segments entry.low ≡ high

abbrev pub AreTied : List (Option (Box Leaf Global)) → List Entry → Type 0
AreTied table [] = Unit {0}
AreTied table (e ∷ es) = IsTied (segments_at table e.leaf) e (end_of es) × AreTied table es

-- the stamps of retired leaves
abbrev pub AreStamped : List Retired → Type 0
AreStamped retired = AllByRecursion (λ r. r.stamp < STAMPS_END) retired

-- what the store keeps of its index and its table
pub record IsKept (index : Index) (table : List (Option (Box Leaf Global))) : Type 0 where
  pub count : length table ≡ index.leaves
  pub index_is : IsIndex index
  pub tied : AreTied table index.entries
  -- no leaf begins at the last key, which no row has
  pub begin : BeginBelow end_key index.entries
  pub stamps : AreStamped index.retired

-- the leaf of the last entry that does not begin above the key, and its last segment whose cut is not above it
pub record IsPlace (key : Key) (entries : List Entry) (place : Place) : Type 0 where
  pub entry : Entry
  pub floor : IsFloor key entries entry
  pub leaf : place.leaf ≡ entry.leaf
  pub last : leaf_index.IsSegment entry.cuts key place.segment

-- the smallest window round the segment that has room for so many rows more, or none has
abbrev pub IsRoomyWindow : List VersionedRows → ℕ → ℕ → Option Window → Type 0
IsRoomyWindow segments need segment window = IsSmallestWindow (Fits (counts_of segments) need) segment window

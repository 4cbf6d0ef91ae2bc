-- Rows laid in segments one behind the other. Only the crate itself speaks of it.
use Rattle.std.specs.Prelude.{◌≡◌, ℕ, ◌+◌, ◌-◌, ◌*◌, ◌<◌, ◌≤◌, true, List, [], ◌∷◌, length, map, min, sum, take, Option}
use Rattle.std.specs.List.{AllByRecursion, flat_map}
use Rattle.std.specs.declared.boxed.Box.{Box}
use Rattle.std.specs.declared.alloc.Global.{Global}
use Rattle.graph_model.specs.declared.limits.TheConstants.{SPLIT_ROWS}
use Rattle.graph_model.specs.Rows.{is_below, first_key, end_key}
use Rattle.gap_segment.specs.Fenced.{AreSorted, AreWithin}
use Rattle.txn_manager.specs.declared.config.RoomRefusal.{RoomRefusal}
use Rattle.txn_manager.specs.declared.config.RoomRefusal.TheVariants as refusals
use Rattle.leaf_table.specs.LeafArrayDeclared.leaf.Leaf.{Leaf}
use Rattle.leaf_index.specs.Index.{Entry, Index, IsIndex}
use Rattle.leaf_store.specs.Leaves.{Part, weight_of_part}
use Rattle.leaf_store.specs.Table.{IsTied, part_of, segments_at}
use Rattle.graph_model.specs.declared.row.Key.{Key}
use Rattle.graph_model.specs.declared.row.Row.{Row}
use Rattle.leaf_table.specs.VersionSegment.Rows.{settled_rows}
use Rattle.leaf_table.specs.LeafArray.Segments.{rows_of}
use Rattle.leaf_table.specs.Settled.{AreLeavesFrom, AreLoadLeaves, IsLeafFrom, IsLeafOf, next_key}
use Rattle.leaf_table.specs.declared.load.LoadLeaves.{LoadLeaves}
use Rattle.leaf_store.specs.Changes.{AreRising}

-- where the first of these entries begins, or else the given end
abbrev pub begin_of : List Entry → Key → Key
begin_of [] high = high
begin_of (e ∷ es) high = e.low

-- as `AreTied`, but the last leaf ends at the given key
abbrev pub AreTiedTo : List (Option (Box Leaf Global)) → Key → List Entry → Type 0
AreTiedTo table high [] = Unit {0}
AreTiedTo table high (e ∷ es) = IsTied (segments_at table e.leaf) e (begin_of es high) × AreTiedTo table high es

abbrev pub parts_in : Index → List (Option (Box Leaf Global)) → List Part
parts_in index table = map (part_of table) index.entries

-- So many rows have been laid, from the first leaf on. While rows are left all leaves so far are as full as may be.
pub record IsFilling (rows : List Row) (at : ℕ) (index : Index) (table : List (Option (Box Leaf Global)))
    : Type 0 where
  pub within : at ≤ length rows
  pub count : length table ≡ index.leaves
  pub index_is : IsIndex index
  pub tied : AreTiedTo table (next_key rows at) index.entries
  pub rows_are : rows_of (flat_map (λ p. p.segments) (parts_in index table)) ≡ settled_rows (take at rows)
  pub retired : index.retired ≡ []
  pub lists : length index.free + length index.entries ≡ index.leaves
  pub below : AllByRecursion (λ e. is_below e.low (next_key rows at) ≡ true) index.entries
  pub weight : sum (map weight_of_part (parts_in index table)) + SPLIT_ROWS * (length index.entries - 1) ≤ at
  pub full : at < length rows → (at ≡ 208 * length index.entries)
      × (sum (map weight_of_part (parts_in index table)) ≤ (SPLIT_ROWS + 1) * length index.entries)

-- the leaves are used up, and so are as many rows as they hold
abbrev pub IsFillStop : RoomRefusal → Index → List Row → Type 0
IsFillStop (refusals.Full leaves) index rows = (leaves ≡ index.leaves) × (SPLIT_ROWS * index.leaves ≤ length rows)
IsFillStop refusals.NoMemory index rows = Unit {0}

-- rows in the order of their keys
pub record AreInOrder (rows : List Row) : Type 0 where
  pub sorted : AreSorted rows
  pub within : AreWithin first_key end_key rows

-- the leaves of a load with these rows
pub record IsLoad (rows : List Row) (made : LoadLeaves) : Type 0 where
  pub rising : AreRising rows
  pub leaves : AreLoadLeaves rows made

-- the first leaf of a load with these rows
pub record IsFirst (rows : List Row) (memory : Box Leaf Global) : Type 0 where
  pub order : AreInOrder rows
  pub leaf : IsLeafOf first_key rows memory

-- so many of these rows have been laid, and this is the next leaf
pub record IsNext (rows : List Row) (at : ℕ) (index : Index) (table : List (Option (Box Leaf Global))) (memory : Box Leaf Global)
    : Type 0 where
  pub order : AreInOrder rows
  pub filling : IsFilling rows at index table
  pub more : at < length rows
  pub leaf : IsLeafFrom rows at memory

-- the first leaf has been laid, and these are the next ones, with so many rows
pub record AreNext (rows : List Row) (left : ℕ) (index : Index) (table made : List (Option (Box Leaf Global))) : Type 0 where
  pub order : AreInOrder rows
  pub filling : IsFilling rows (min 208 (length rows)) index table
  pub left_is : left ≡ length rows - 208
  pub leaves : AreLeavesFrom rows 208 made

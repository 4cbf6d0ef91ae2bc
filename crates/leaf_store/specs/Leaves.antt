-- The leaves of a store, as contracts see them.
use Rattle.std.specs.Prelude.{◌≡◌, ℕ, ◌+◌, ◌-◌, ◌*◌, Bool, true, cond, List, [], ◌∷◌, length, sum, map, Some, slice_get}
use Rattle.std.specs.List.{AllByRecursion, flat_map}
use Rattle.graph_model.specs.declared.limits.TheConstants.{SEGMENT_ROWS, SPLIT_ROWS}
use Rattle.graph_model.specs.declared.row.Key.{Key}
use Rattle.graph_model.specs.Rows.{is_below, is_between, first_key, end_key}
use Rattle.store_model.specs.Stamped.{StampedVersions, forget_row}
use Rattle.store_model.specs.declared.versions.Versions.{Versions}
use Rattle.leaf_table.specs.VersionSegment.Rows.{VersionedRows, IsSegment, versions_at, has_row as has_row_in}
use Rattle.leaf_index.specs.declared.route.Retired.{Retired}
use Rattle.leaf_table.specs.LeafArray.Segments.{rows_of, records_of, low_or, high_or, AreChained}

-- a live leaf: its number, and its segments in the order of their keys
pub record Part : Type 0 where
  pub leaf : ℕ
  pub segments : List VersionedRows

-- How many leaves there are, the live ones in the order of their keys, and the lists of those that are free and that
-- are retired.
pub record Leaves : Type 0 where
  pub limit : ℕ
  pub parts : List Part
  pub free : List ℕ
  pub retired : List Retired

-- ---- cells

-- the segments of all live leaves, in the order of their keys
abbrev pub cells_of : Leaves → List VersionedRows
cells_of s = flat_map (λ p. p.segments) s.parts

-- what a key has that lies in no cell
abbrev pub no_cell : VersionedRows
no_cell = record { low = end_key; high = end_key; rows = []; spare = 0 }

-- the first of the cells whose fence keys hold the key
abbrev pub cell_in : List VersionedRows → Key → VersionedRows
cell_in [] k = no_cell
cell_in (c ∷ cs) k = cond (is_between c.low c.high k) c (cell_in cs k)

-- the cell of a key
abbrev pub cell_at : Leaves → Key → VersionedRows
cell_at s k = cell_in (cells_of s) k

-- the fence keys of the one key's cell hold the other
abbrev pub shares : Leaves → Key → Key → Bool
shares s k q = is_between (cell_at s k).low (cell_at s k).high q

-- so many records stand in all rows
abbrev pub record_count : Leaves → ℕ
record_count s = records_of (cells_of s)

-- ---- what a key has

abbrev pub versions_of : Leaves → Key → StampedVersions
versions_of s k = versions_at (cell_at s k) k

-- the same without the stamps
abbrev pub contents_of : Leaves → Key → Versions
contents_of s k = forget_row (versions_of s k)

abbrev pub has_row : Leaves → Key → Bool
has_row s k = has_row_in (cell_at s k) k

-- for so many rows more its cell has room
abbrev pub room_at : Leaves → Key → ℕ
room_at s k = SEGMENT_ROWS - length (cell_at s k).rows

-- and for so many records more
abbrev pub spare_at : Leaves → Key → ℕ
spare_at s k = (cell_at s k).spare

-- ---- what holds of each store

-- a leaf has eight segments
abbrev pub IsPart : Part → Type 0
IsPart p = length p.segments ≡ 8

-- the cells follow each other from the first key to the last one
pub record AreLeaves (s : Leaves) : Type 0 where
  pub parts : AllByRecursion IsPart s.parts
  pub segments : AllByRecursion IsSegment (cells_of s)
  pub chained : AreChained (cells_of s)
  pub low : low_or (cells_of s) end_key ≡ first_key
  pub high : high_or (cells_of s) first_key ≡ end_key

-- ---- how full it is

-- a leaf that has just been split has at most so many rows
abbrev pub weight_of_part : Part → ℕ
weight_of_part p = length (rows_of p.segments) - (SPLIT_ROWS + 1)

-- the rows above those of a leaf that has just been split, and as many as a split takes away for each leaf that isn't
-- free, but for the first
abbrev pub weight : Leaves → ℕ
weight s = sum (map weight_of_part s.parts) + SPLIT_ROWS * (s.limit - 1 - length s.free)

-- ---- what follows of each store

-- each key below the last one lies in its cell
abbrev pub KeysHaveCells : Leaves → Type 0
KeysHaveCells s = (k : Key) → is_below k end_key ≡ true → shares s k k ≡ true

-- keys that share a cell have the same one
abbrev pub CellsAreApart : Leaves → Type 0
CellsAreApart s = (k q : Key) → shares s k q ≡ true → cell_at s q ≡ cell_at s k

-- ---- the range of a leaf

-- these keys are those of a live leaf: its first segment begins at the low one, and its last one ends at the high one
pub record IsLeafOf (s : Leaves) (low high : Key) : Type 0 where
  pub place : ℕ
  pub part : Part
  pub there : slice_get s.parts place ≡ Some part
  pub begins : low_or part.segments end_key ≡ low
  pub ends : high_or part.segments first_key ≡ high

-- a cell that has one of these keys has no others
abbrev pub HasWholeCells : Leaves → Key → Key → Type 0
HasWholeCells s low high =
    (p q : Key) → is_between low high p ≡ true → shares s p q ≡ true → is_between low high q ≡ true

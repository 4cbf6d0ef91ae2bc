-- Rows laid in segments one behind the other, and the leaves of a load.
use Rattle.std.specs.Prelude.{◌≡◌, ℕ, ◌+◌, ◌*◌, ◌<◌, List, length, min, take, drop, slice_index_or, Option, IfSome}
use Rattle.std.specs.declared.boxed.Box.{Box}
use Rattle.std.specs.declared.alloc.Global.{Global}
use Rattle.graph_model.specs.declared.row.Key.{Key}
use Rattle.graph_model.specs.declared.row.Row.{Row}
use Rattle.graph_model.specs.Rows.{first_key, end_key}
use Rattle.gap_segment.specs.Fenced.{first_key_or}
use Rattle.leaf_array.specs.VersionSegment.Rows.{VersionedRows, settled_rows}
use Rattle.leaf_array.specs.declared.leaf.Leaf.{Leaf}
use Rattle.leaf_array.specs.Leaves.{IsLeaf}
use Rattle.leaf_table.specs.declared.load.LoadLeaves.{LoadLeaves}
use Rattle.leaf_array.specs.Segments.{rows_of, low_or, high_or, AreChained}

-- the rows, each of them settled, between these fence keys
pub record AreSettled (low high : Key) (rows : List Row) (ss : List VersionedRows) : Type 0 where
  pub begins : low_or ss low ≡ low
  pub chained : AreChained ss
  pub ends : high_or ss low ≡ high
  pub rows_are : rows_of ss ≡ settled_rows rows

-- the key of the first row that is left, or the last key
abbrev pub next_key : List Row → ℕ → Key
next_key rows at = first_key_or (drop at rows) end_key

-- memory for a leaf that begins with the key, with the first of these rows, as many as a spread may leave in one
pub record IsLeafOf (low : Key) (rest : List Row) (memory : Box Leaf Global) : Type 0 where
  pub settled : let count = min (length rest) 208 in
      AreSettled low (first_key_or (drop count rest) end_key) (take count rest) memory.value.segments
  pub leaf : IsLeaf memory.value.segments

-- the same with the rows from a place on
abbrev pub IsLeafFrom : List Row → ℕ → Box Leaf Global → Type 0
IsLeafFrom rows at memory = let rest = drop at rows in
    IsLeafOf (first_key_or (take (min (length rest) 208) rest) end_key) rest memory

-- memory for leaves that begin at a place, one after the other, where it was made
abbrev pub AreLeavesFrom : List Row → ℕ → List (Option (Box Leaf Global)) → Type 0
AreLeavesFrom rows first made = (i : ℕ) (d : Option (Box Leaf Global)) → i < length made
    → IfSome (slice_index_or made i d) (IsLeafFrom rows (first + 208 * i))

-- memory for the leaves of a load, where it was made
pub record AreLoadLeaves (rows : List Row) (made : LoadLeaves) : Type 0 where
  pub first : IsLeafOf first_key rows made.first
  pub rest : AreLeavesFrom rows 208 made.rest.items
  pub count : made.rows ≡ length rows

-- The cells of a leaf, from its rows between fence keys.
use Rattle.std.specs.Prelude.{◌≡◌, ℕ, zero, suc, List, [], ◌∷◌, ◌++◌, take, drop, Option, Some}
use Rattle.std.specs.List.{AllByRecursion}
use Rattle.std.specs.declared.boxed.Box.{Box}
use Rattle.std.specs.declared.alloc.Global.{Global}
use Rattle.graph_model.specs.declared.row.Key.{Key}
use Rattle.graph_model.specs.declared.row.Row.{Row}
use Rattle.graph_model.specs.Rows.{end_key}
use Rattle.gap_segment.specs.Fenced.{first_key_or}
use Rattle.rule_model.specs.VersionSegment.Rows.{VersionedRows, settled_rows}
use Rattle.rule_model.specs.LeafArrayDeclared.leaf.Leaf.{Leaf}
use Rattle.rule_model.specs.LeafStore.Table.{segments_or_none}
use Rattle.loaded_cells.specs.declared.fill.LoadedRange.{LoadedRange}
use Rattle.loaded_cells.specs.declared.fill.TheConstants.{FULL_SEGMENT}

-- ---- a leaf's rows

-- the segment that has the rows of a key range, each of them settled
abbrev pub segment_of : LoadedRange → VersionedRows
segment_of r = record { low = r.low; high = r.high; rows = settled_rows r.rows.now; spare = 0 }

-- The rows of a key range in so many segments: each has as many as a spread may leave it, and ends where the first row
-- behind it begins.
abbrev pub segments_from : ℕ → Key → Key → List Row → List VersionedRows
segments_from zero low high rows = []
segments_from (suc n) low high rows =
    record {
      low = low;
      high = first_key_or (drop FULL_SEGMENT rows) high;
      rows = settled_rows (take FULL_SEGMENT rows);
      spare = 0;
    }
    ∷ segments_from n (first_key_or (drop FULL_SEGMENT rows) high) high (drop FULL_SEGMENT rows)

-- the eight segments of a leaf
abbrev pub leaf_segments : LoadedRange → List VersionedRows
leaf_segments leaf = segments_from 8 leaf.low leaf.high leaf.rows.now

-- those of all leaves, one leaf after the other
abbrev pub loaded_segments : List LoadedRange → List VersionedRows
loaded_segments [] = []
loaded_segments (leaf ∷ leaves) = leaf_segments leaf ++ loaded_segments leaves

-- ---- a leaf that isn't live

-- it has no rows, at the last key
pub record IsIdleRange (leaf : LoadedRange) : Type 0 where
  pub low : leaf.low ≡ end_key
  pub high : leaf.high ≡ end_key
  pub rows : leaf.rows.now ≡ []

abbrev pub AreIdle : List LoadedRange → Type 0
AreIdle leaves = AllByRecursion IsIdleRange leaves

-- what stands in its cells
abbrev pub idle_segment : VersionedRows
idle_segment = record { low = end_key; high = end_key; rows = []; spare = 0 }

-- ---- leaves in memory

-- the segments of a leaf, or eight idle ones where it has none
abbrev pub eight_or_idle : List VersionedRows → List VersionedRows
eight_or_idle [] = idle_segment ∷ idle_segment ∷ idle_segment ∷ idle_segment
    ∷ idle_segment ∷ idle_segment ∷ idle_segment ∷ idle_segment ∷ []
eight_or_idle (s ∷ ss) = s ∷ ss

-- what stands in the cells of a leaf that has this memory
abbrev pub cells_in_memory : Option (Box Leaf Global) → List VersionedRows
cells_in_memory memory = eight_or_idle (segments_or_none (Some memory))

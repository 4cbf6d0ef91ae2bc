-- Leaves with the rows of a load.
use Rattle.std.specs.Prelude.{◌≡◌, ℕ, false, List, [], length, map, Option}
use Rattle.std.specs.declared.boxed.Box.{Box}
use Rattle.std.specs.declared.alloc.Global.{Global}
use Rattle.graph_model.specs.declared.row.Row.{Row}
use Rattle.rule_model.specs.LeafArrayDeclared.leaf.Leaf.{Leaf}
use Rattle.leaf_index.specs.Index.{Index}
use Rattle.rule_model.specs.LeafStore.Changes.{AreFilled}
use Rattle.rule_model.specs.LeafStore.Fill.{IsFilling}
use Rattle.rule_model.specs.LeafStore.Table.{IsKept, leaves_of, segments_at}
use Rattle.rule_model.specs.CellsModel.Indexed.{is_live}
use Rattle.loaded_cells.specs.Ranges.{cells_in_memory, leaf_segments}
use Rattle.loaded_cells.specs.declared.fill.LoadedRange.{LoadedRange}

-- a leaf that isn't live has no memory
abbrev pub IsOnlyLive : Index → List (Option (Box Leaf Global)) → Type 0
IsOnlyLive index table = (l : ℕ) → is_live index l ≡ false → segments_at table l ≡ []

-- leaves in memory with these numbers would have the same cells
abbrev pub HaveCells : List (Option (Box Leaf Global)) → List LoadedRange → Type 0
HaveCells table ranges = map cells_in_memory table ≡ map leaf_segments ranges

-- So many rows have a leaf: one owner would have laid them in leaves with the same cells.
pub record AreDivided (rows : List Row) (at : ℕ) (index : Index) (ranges : List LoadedRange) : Type 0 where
  pub table : List (Option (Box Leaf Global))
  pub same : HaveCells table ranges
  pub filling : IsFilling rows at index table
  pub only : IsOnlyLive index table

-- All have one: leaves in memory with the same cells, under this index, would be a store of one owner with these rows.
pub record AreLaid (leaves : ℕ) (rows : List Row) (index : Index) (ranges : List LoadedRange) : Type 0 where
  pub table : List (Option (Box Leaf Global))
  pub same : HaveCells table ranges
  pub kept : IsKept index table
  pub filled : AreFilled leaves rows (leaves_of index table)
  pub only : IsOnlyLive index table
  pub filling : IsFilling rows (length rows) index table

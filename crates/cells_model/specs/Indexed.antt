-- The index of a store whose cells are numbered: leaf l has the eight cells from number 8 * l on.
use Rattle.std.specs.Prelude.{◌≡◌, ◌⊎◌, ℕ, zero, suc, ◌*◌, ◌<◌, ◌≤◌, Bool, true, false, List, [], ◌∷◌, Option, Some, ◌==◌, cond}
use Rattle.std.specs.List.{AllByRecursion, list_any}
use Rattle.std.specs.declared.boxed.Box.{Box}
use Rattle.std.specs.declared.alloc.Global.{Global}
use denote.RawPtr.{null_ptr}
use Rattle.graph_model.specs.declared.row.Key.{Key}
use Rattle.graph_model.specs.Rows.{is_between, first_key, end_key}
use Rattle.leaf_store.specs.VersionSegment.Rows.{VersionedRows, versions_at}
use Rattle.leaf_store.specs.LeafArrayDeclared.leaf.Leaf.{Leaf}
use Rattle.leaf_index.specs.Index.{Index}
use Rattle.leaf_index.specs.Calls.{new_index}
use Rattle.leaf_store.specs.Leaves.{Leaves, cell_at, versions_of}
use Rattle.leaf_store.specs.Table.{IsKept, leaves_of, segments_at}

-- ---- numbered cells, as the definitions of a store of one owner want them

-- so many cells from a number on
abbrev pub cells_from : (ℕ → VersionedRows) → ℕ → ℕ → List VersionedRows
cells_from cell from zero = []
cells_from cell from (suc count) = cell from ∷ cells_from cell (suc from) count

-- the eight cells of a leaf
abbrev pub leaf_cells : (ℕ → VersionedRows) → ℕ → List VersionedRows
leaf_cells cell l = cells_from cell (8 * l) 8

-- a leaf in memory; where it would lie is of no account
abbrev pub in_box : Global → List VersionedRows → Box Leaf Global
in_box heap segments = record {
  ptr = null_ptr;
  alloc = heap;
  value = record { segments = segments };
}

-- so many leaves from a number on
abbrev pub leaves_from : Global → (ℕ → VersionedRows) → ℕ → ℕ → List (Option (Box Leaf Global))
leaves_from heap cell l zero = []
leaves_from heap cell l (suc count) =
    Some (in_box heap (leaf_cells cell l)) ∷ leaves_from heap cell (suc l) count

abbrev pub table_of : Global → (ℕ → VersionedRows) → ℕ → List (Option (Box Leaf Global))
table_of heap cell count = leaves_from heap cell 0 count

-- the live leaves of the index, with their cells
abbrev pub store_of : Global → Index → (ℕ → VersionedRows) → Leaves
store_of heap index cell = leaves_of index (table_of heap cell index.leaves)

-- ---- the index against the cells

-- the leaf has an entry in the index
abbrev pub is_live : Index → ℕ → Bool
is_live index l = list_any (λ e. e.leaf == l) index.entries

-- the key lies between the cell's fence keys
abbrev pub covers : VersionedRows → Key → Bool
covers c q = is_between c.low c.high q

-- a cell without rows that covers no key
pub record IsIdle (c : VersionedRows) : Type 0 where
  pub rows : c.rows ≡ []
  pub fences : c.low ≡ c.high

-- entries and cells say the same, and the cells of a leaf without entry are idle
pub record IsIndexed (heap : Global) (index : Index) (cell : ℕ → VersionedRows) : Type 0 where
  pub kept : IsKept index (table_of heap cell index.leaves)
  pub idle : (l : ℕ) → l < index.leaves → is_live index l ≡ false
      → AllByRecursion IsIdle (leaf_cells cell l)

-- ---- what follows

-- a cell's fence keys alone tell that it is a key's: no index is asked
abbrev pub FencesTell : Type 0
FencesTell =
    (heap : Global) (index : Index) (cell : ℕ → VersionedRows) → IsIndexed heap index cell
    → (k : ℕ) (q : Key) → k < 8 * index.leaves → covers (cell k) q ≡ true
    → cell_at (store_of heap index cell) q ≡ cell k

-- so what a key has is what that cell has, whoever holds it
abbrev pub CellsShow : Type 0
CellsShow =
    (heap : Global) (index : Index) (cell : ℕ → VersionedRows) → IsIndexed heap index cell
    → (k : ℕ) (q : Key) → k < 8 * index.leaves → covers (cell k) q ≡ true
    → versions_of (store_of heap index cell) q ≡ versions_at (cell k) q

-- Leaves move. The index is sound against the new cells, by the laws of the store of one owner,
-- and a leaf without entry is idle now, or had none before and is as it was.
abbrev pub MovesIndexed : Type 0
MovesIndexed =
    (heap : Global) (index index' : Index) (cell cell' : ℕ → VersionedRows)
    → IsIndexed heap index cell
    → IsKept index' (table_of heap cell' index'.leaves) → index'.leaves ≡ index.leaves
    → ((l : ℕ) → l < index.leaves → is_live index' l ≡ false
    → AllByRecursion IsIdle (leaf_cells cell' l)
    ⊎ ((is_live index l ≡ false) × (leaf_cells cell' l ≡ leaf_cells cell l)))
    → IsIndexed heap index' cell'

-- the cells of a new store: the first one covers all keys
abbrev pub new_cell : ℕ → VersionedRows
new_cell k = record {
  low = cond (k == 0) first_key end_key;
  high = end_key;
  rows = [];
  spare = 0;
}

abbrev pub NewIsIndexed : Type 0
NewIsIndexed =
    (heap : Global) (leaves : ℕ) → 1 ≤ leaves → IsIndexed heap (new_index leaves) new_cell

-- ---- leaves that were there before their cells had numbers

-- a live leaf's cells are its segments, and those of a leaf without entry are idle
pub record AreNumbered (index : Index) (table : List (Option (Box Leaf Global)))
    (cell : ℕ → VersionedRows) : Type 0 where
  pub live : (l : ℕ) → l < index.leaves → is_live index l ≡ true
      → leaf_cells cell l ≡ segments_at table l
  pub idle : (l : ℕ) → l < index.leaves → is_live index l ≡ false
      → AllByRecursion IsIdle (leaf_cells cell l)

-- they are cells of the same leaves
pub record ShowsLeaves (heap : Global) (index : Index) (table : List (Option (Box Leaf Global)))
    (cell : ℕ → VersionedRows) : Type 0 where
  pub indexed : IsIndexed heap index cell
  pub same : store_of heap index cell ≡ leaves_of index table

abbrev pub NumberedIsIndexed : Type 0
NumberedIsIndexed =
    (heap : Global) (index : Index) (table : List (Option (Box Leaf Global)))
    (cell : ℕ → VersionedRows) → IsKept index table → AreNumbered index table cell
    → ShowsLeaves heap index table cell

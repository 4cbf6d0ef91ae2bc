-- Rows that move between the cells of leaves: spreads, splits, merges, and retired leaves that
-- are freed.
use Rattle.std.specs.Prelude.{◌≡◌, ◌≢◌, ℕ, ◌+◌, ◌*◌, ◌<◌, ◌≤◌, true, None, List, [], ◌∷◌, ◌++◌, length}
use Rattle.std.specs.List.{AllByRecursion}
use Rattle.std.specs.declared.alloc.Global.{Global}
use Rattle.graph_model.specs.declared.row.Key.{Key}
use Rattle.graph_model.specs.declared.limits.TheConstants.{SPLIT_ROWS}
use Rattle.graph_model.specs.Rows.{is_below, end_key}
use Rattle.density_tree.specs.Windows.{Fits, IsSmallestWindow}
use Rattle.leaf_store.specs.VersionSegment.Rows.{VersionedRows, IsSegment}
use Rattle.leaf_store.specs.LeafArray.Leaves.{Merges, Splits}
use Rattle.leaf_store.specs.LeafArray.Segments.{counts_of, lows_of, rows_of}
use Rattle.leaf_index.specs.Index.{Index, Entry, IsFloor, IsIndex, IsTaken, IsSegment as IsSegmentOf}
use Rattle.leaf_index.specs.Calls.{freed}
use Rattle.leaf_store.specs.declared.pair.TheConstants.{MERGE_ROWS, STAMPS_END}
use Rattle.leaf_store.specs.Leaves.{room_at, weight}
use Rattle.leaf_store.specs.Ranges.{in_two}
use Rattle.leaf_store.specs.Changes.{MovesRows}
use Rattle.leaf_store.specs.Merging.{Compacts, FreesRetired}
use Rattle.leaf_store.proofs.MoveLemmas.{Respreads}
use Rattle.cells_model.specs.Indexed.{leaf_cells, store_of, IsIdle, IsIndexed}

-- the index leads the key to this segment of this leaf
pub record IsRoutedTo (key : Key) (entries : List Entry) (leaf segment : ℕ) : Type 0 where
  pub entry : Entry
  pub floor : IsFloor key entries entry
  pub number : leaf ≡ entry.leaf
  pub last : IsSegmentOf entry.cuts key segment

-- only cells of these two leaves differ
abbrev pub KeepsOtherLeaves : (ℕ → VersionedRows) → (ℕ → VersionedRows) → ℕ → ℕ → Type 0
KeepsOtherLeaves cell cell' l m = (n : ℕ) → n ≢ l → n ≢ m → leaf_cells cell' n ≡ leaf_cells cell n

-- the index is sound against the new cells, and each key has its versions
pub record MovesCells (heap : Global) (index index' : Index)
    (cell cell' : ℕ → VersionedRows) : Type 0 where
  pub indexed : IsIndexed heap index' cell'
  pub moves : MovesRows (store_of heap index cell) (store_of heap index' cell')

-- ---- a spread

abbrev pub with_entry : Index → List Entry → Entry → List Entry → Index
with_entry index front e back = record index { entries = front ++ e ∷ back }

-- the rows of one leaf's cells are divided anew among them, and its entry has their least keys
abbrev pub SpreadsCells : Type 0
SpreadsCells =
    (heap : Global) (index : Index) (cell cell' : ℕ → VersionedRows) (front : List Entry)
    (e : Entry)
    (back : List Entry) → IsIndexed heap index cell → index.entries ≡ front ++ e ∷ back
    → e.leaf < index.leaves
    → KeepsOtherLeaves cell cell' e.leaf e.leaf
    → Respreads (leaf_cells cell e.leaf) (leaf_cells cell' e.leaf)
    → IsIndex (with_entry index front
    (record e { cuts = lows_of (leaf_cells cell' e.leaf) }) back)
    → MovesCells heap index (with_entry index front
    (record e { cuts = lows_of (leaf_cells cell' e.leaf) }) back) cell cell'

-- ---- a split

-- a leaf's rows are divided between it and a leaf that was free, and both have entries
pub record SplitsInTwo (index new : Index)
    (cell cell' : ℕ → VersionedRows) (leaf other : ℕ) : Type 0 where
  pub front : List Entry
  pub entry : Entry
  pub back : List Entry
  pub is : index.entries ≡ front ++ entry ∷ back
  pub number : entry.leaf ≡ leaf
  pub key : Key
  pub splits : Splits (leaf_cells cell leaf) (leaf_cells cell' leaf) (leaf_cells cell' other) key
  pub left_sound : AllByRecursion IsSegment (leaf_cells cell' leaf)
  pub right_sound : AllByRecursion IsSegment (leaf_cells cell' other)
  pub free : List ℕ
  pub was_free : index.free ≡ free ++ other ∷ []
  pub taken : IsTaken (record index { free = free }) other
  pub now : new ≡ record index {
    entries = in_two front entry (lows_of (leaf_cells cell' leaf)) key other
        (lows_of (leaf_cells cell' other)) back;
    free = free;
  }
  pub others : KeepsOtherLeaves cell cell' leaf other

pub record SplitCells (heap : Global) (index new : Index)
    (cell cell' : ℕ → VersionedRows) (key : Key) : Type 0 where
  pub moves : MovesCells heap index new cell cell'
  pub room : 2 ≤ room_at (store_of heap new cell') key

-- a split of the leaf to which a key is led; the leaf has more rows than seven cells hold
abbrev pub SplitsCells : Type 0
SplitsCells =
    (heap : Global) (index new : Index)
    (cell cell' : ℕ → VersionedRows) (key : Key) (leaf segment other : ℕ)
    → IsIndexed heap index cell → IsRoutedTo key index.entries leaf segment
    → is_below key end_key ≡ true
    → SplitsInTwo index new cell cell' leaf other → 207 ≤ length (rows_of (leaf_cells cell leaf))
    → leaf < index.leaves → IsIndex new → SplitCells heap index new cell cell' key

-- ---- a merge

-- the left one of two neighbours with few rows has the rows and the range of both, and the right
-- one is retired
pub record MergesInOne (index new : Index)
    (cell cell' : ℕ → VersionedRows) (stamp : ℕ) : Type 0 where
  pub front : List Entry
  pub left : Entry
  pub right : Entry
  pub back : List Entry
  pub is : index.entries ≡ front ++ left ∷ right ∷ back
  pub few : length (rows_of (leaf_cells cell left.leaf)) + length
      (rows_of (leaf_cells cell right.leaf)) ≤ MERGE_ROWS
  pub rest : List VersionedRows
  pub merges : Merges (leaf_cells cell left.leaf) (leaf_cells cell right.leaf)
      (leaf_cells cell' left.leaf) rest
  pub left_sound : AllByRecursion IsSegment (leaf_cells cell' left.leaf)
  pub right_idle : AllByRecursion IsIdle (leaf_cells cell' right.leaf)
  pub now : new ≡ record index {
    entries = front ++ record left { cuts = lows_of (leaf_cells cell' left.leaf) } ∷ back;
    retired = index.retired ++ record { leaf = right.leaf; stamp = stamp } ∷ [];
  }
  pub others : KeepsOtherLeaves cell cell' left.leaf right.leaf

pub record MergedCells (heap : Global) (index new : Index)
    (cell cell' : ℕ → VersionedRows) (stamp : ℕ) : Type 0 where
  pub indexed : IsIndexed heap new cell'
  pub compacts : Compacts (store_of heap index cell) (store_of heap new cell') stamp

abbrev pub MergesCells : Type 0
MergesCells =
    (heap : Global) (index new : Index) (cell cell' : ℕ → VersionedRows) (stamp : ℕ)
    → IsIndexed heap index cell
    → (m : MergesInOne index new cell cell' stamp) → stamp < STAMPS_END
    → m.left.leaf < index.leaves
    → m.right.leaf < index.leaves → IsIndex new → MergedCells heap index new cell cell' stamp

-- ---- retired leaves are freed

pub record FreedCells (heap : Global) (until : ℕ) (index index' : Index)
    (cell : ℕ → VersionedRows) : Type 0 where
  pub indexed : IsIndexed heap index' cell
  pub frees : FreesRetired until (store_of heap index cell) (store_of heap index' cell)

abbrev pub FreesCells : Type 0
FreesCells =
    (heap : Global) (index : Index) (cell : ℕ → VersionedRows) (until most : ℕ)
    → IsIndexed heap index cell
    → IsIndex (freed until most index) → index.leaves ≤ most
    → FreedCells heap until index (freed until most index) cell

-- ---- why a store is full

-- no window round the key's segment fits, and no leaf is free: so many rows were inserted at
-- least
abbrev pub FullIsCounted : Type 0
FullIsCounted =
    (heap : Global) (index : Index)
    (cell : ℕ → VersionedRows) (key : Key) (leaf segment need inserted : ℕ)
    → IsIndexed heap index cell → IsRoutedTo key index.entries leaf segment
    → is_below key end_key ≡ true
    → need ≤ 2 → leaf < index.leaves → index.free ≡ []
    → IsSmallestWindow (Fits (counts_of (leaf_cells cell leaf)) need) segment None
    → weight (store_of heap index cell) ≤ inserted → SPLIT_ROWS * index.leaves ≤ inserted

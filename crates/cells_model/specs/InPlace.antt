-- Held cells get other contents between the same fence keys: the index stays, and each key has
-- what its cell has.
use Rattle.std.specs.Prelude.{◌≡◌, ℕ, ◌+◌, ◌-◌, ◌*◌, ◌<◌, ◌≤◌, true, false, List, [], ◌∷◌, length, Some}
use Rattle.std.specs.List.{AllByRecursion}
use Rattle.std.specs.declared.alloc.Global.{Global}
use Rattle.graph_model.specs.declared.row.Key.{Key}
use Rattle.seat_views.specs.Keeping.{kept_at, revised}
use Rattle.leaf_store.specs.VersionSegment.Rows.{VersionedRows, IsSegment, versions_at}
use Rattle.leaf_index.specs.Index.{Index}
use Rattle.leaf_store.specs.Leaves.{versions_of, weight}
use Rattle.cells_model.specs.Cells.{CellState}
use Rattle.cells_model.specs.Indexed.{store_of, covers, IsIndexed}

-- the contents of all cells
abbrev pub segment_of : (ℕ → CellState) → ℕ → VersionedRows
segment_of cell k = (cell k).segment

-- a cell that covers a key gets these contents, between the same fence keys
pub record IsInPlace (leaves : ℕ)
    (cell : ℕ → CellState) (k : ℕ) (new : VersionedRows) : Type 0 where
  pub inside : k < 8 * leaves
  pub low : new.low ≡ (cell k).segment.low
  pub high : new.high ≡ (cell k).segment.high
  pub sound : IsSegment new
  pub key : Key
  pub covered : covers (cell k).segment key ≡ true

abbrev pub AreInPlace : ℕ → (ℕ → CellState) → List (ℕ × CellState) → Type 0
AreInPlace leaves cell news = AllByRecursion (λ e. IsInPlace leaves cell e.0 e.1.segment) news

-- so many rows more than before, over all cells that grow
abbrev pub growth : (ℕ → CellState) → List (ℕ × CellState) → ℕ
growth cell [] = 0
growth cell (e ∷ es) = growth cell es +
    (length e.1.segment.rows - length (revised cell es e.0).segment.rows)

-- what that makes of the store
pub record ChangesInPlace (heap : Global) (index : Index)
    (cell : ℕ → CellState) (news : List (ℕ × CellState)) : Type 0 where
  pub indexed : IsIndexed heap index (segment_of (revised cell news))
  pub low : (k : ℕ) → (revised cell news k).segment.low ≡ (cell k).segment.low
  pub high : (k : ℕ) → (revised cell news k).segment.high ≡ (cell k).segment.high
  -- a key that a changed cell covers has what that cell has, and any other what it had
  pub here : (k : ℕ) (d : CellState) (q : Key) → kept_at news k ≡ Some d
      → covers (cell k).segment q ≡ true
      → versions_of (store_of heap index (segment_of (revised cell news))) q
      ≡ versions_at d.segment q
  pub others : (q : Key)
      → ((k : ℕ) (d : CellState) → kept_at news k ≡ Some d → covers (cell k).segment q ≡ false)
      → versions_of (store_of heap index (segment_of (revised cell news))) q
      ≡ versions_of (store_of heap index (segment_of cell)) q
  -- the count that bounds `Full`
  pub weight_is : weight (store_of heap index (segment_of (revised cell news)))
      ≤ weight (store_of heap index (segment_of cell)) + growth cell news

abbrev pub CellsChangeInPlace : Type 0
CellsChangeInPlace =
    (heap : Global) (index : Index) (cell : ℕ → CellState)
    → IsIndexed heap index (segment_of cell)
    → (news : List (ℕ × CellState)) → AreInPlace index.leaves cell news
    → ChangesInPlace heap index cell news

-- A leaf in hand that is split.
use Rattle.std.specs.Prelude.{◌≡◌, ℕ, List, [], ◌∷◌, ◌++◌, Option, Some, None}
use Rattle.std.specs.List.{AllByRecursion}
use Rattle.std.specs.declared.alloc.Global.{Global}
use Rattle.std.specs.declared.boxed.Box.{Box}
use Rattle.latch_table.specs.declared.cells.Held.{Held}
use Rattle.leaf_index.specs.declared.index.LeafIndex.{LeafIndex}
use Rattle.pass_moves.specs.VersionSegment.Rows.{VersionedRows, IsSegment}
use Rattle.leaf_index.specs.Index.{Entry, Index, IsTaken}
use Rattle.pass_moves.specs.LeafStore.Ranges.{IsLive, SplitsEntry}
use Rattle.graph_model.specs.declared.row.Key.{Key}
use Rattle.pass_moves.specs.PassCellsDeclared.taken.TakenCell.{TakenCell}
use Rattle.pass_moves.specs.Moving.{AreMarked, HavePut, values_of}
use Rattle.pass_moves.specs.Room.{HasRoom}
use Rattle.pass_splits.specs.declared.split.Split.{Split}
use Rattle.pass_splits.specs.declared.split.Split.TheVariants as splits

-- ---- the index

-- the next leaf to be taken is this one, or none is free
abbrev pub IsNextFree : Index → Option ℕ → Type 0
IsNextFree index None = index.free ≡ []
IsNextFree index (Some leaf) = (front : List ℕ) × (index.free ≡ front ++ leaf ∷ [])

-- the leaf was free, and all that has changed beside is that it has an entry
pub record TakesLeaf (leaf : ℕ) (old new : Index) : Type 0 where
  pub front : List ℕ
  pub was_free : old.free ≡ front ++ leaf ∷ []
  pub taken : IsTaken (record old { free = front }) leaf
  pub now : new ≡ record old { entries = new.entries; free = front }

-- the index in hand is as it was
pub record KeepsIndex (old new : Held (Box LeafIndex Global)) : Type 0 where
  pub cell : new.cell ≡ old.cell
  pub same : new.value.value ≡ old.value.value

-- ---- cells

-- The rows of the left cells are divided between them and the right ones, with entries for both; all cells are
-- marked as changed.
pub record DividesCells (leaf : ℕ) (old new : List Entry) (left right left' right' : List TakenCell)
    (live : IsLive old (values_of left)) : Type 0 where
  pub lefts : List VersionedRows
  pub rights : List VersionedRows
  pub splits : SplitsEntry leaf old new (values_of left) lefts rights live
  pub left_sound : AllByRecursion IsSegment lefts
  pub right_sound : AllByRecursion IsSegment rights
  pub left_between : List TakenCell
  pub left_put : HavePut left lefts left_between
  pub left_marked : AreMarked left_between left' 0 8
  pub right_between : List TakenCell
  pub right_put : HavePut right rights right_between
  pub right_marked : AreMarked right_between right' 0 8

-- ---- the answer

-- where the leaf was split the key's cell has its places
abbrev pub IsSplit : Key → ℕ → List VersionedRows → Split → Type 0
IsSplit key need ss splits.Done = HasRoom key need ss
IsSplit key need ss splits.Other = Unit {0}

-- How room for rows is made in a key's cell: a window is spread, or a leaf is split.
use Rattle.std.specs.Prelude.{◌≡◌, ◌⊎◌, ℕ, List, [], ◌∷◌, ◌++◌, Some, None, slice_get}
use Rattle.graph_model.specs.declared.row.Key.{Key}
use Rattle.leaf_table.specs.VersionSegment.Rows.{VersionedRows}
use Rattle.density_tree.specs.declared.window.Window.{Window}
use Rattle.density_tree.specs.Windows.{Fits, IsSmallestWindow}
use Rattle.leaf_table.specs.LeafArray.Leaves.{Splits, SpreadsWindow}
use Rattle.leaf_table.specs.LeafArray.Segments.{counts_of}
use Rattle.leaf_store.specs.Leaves.{Leaves, Part, cell_at}

-- where a key's cell stands: it is this segment of a live leaf, between others
pub record StandsAt (s : Leaves) (key : Key) : Type 0 where
  pub front : List Part
  pub part : Part
  pub back : List Part
  pub segment : ℕ
  pub is : s.parts ≡ front ++ part ∷ back
  pub holds : slice_get part.segments segment ≡ Some (cell_at s key)

-- The smallest window round the cell that has room for so many rows more is spread, and all else is as it was.
pub record SpreadsRound (old new : Leaves) (key : Key) (need : ℕ) : Type 0 where
  pub at : StandsAt old key
  pub window : Window
  pub segments : List VersionedRows
  pub smallest : IsSmallestWindow (Fits (counts_of at.part.segments) need) at.segment (Some window)
  pub spreads : SpreadsWindow window at.part.segments segments
  pub now : new ≡ record old { parts = at.front ++ record at.part { segments = segments } ∷ at.back }

-- No window round the cell has room, so the rows of its leaf are divided between it and the free leaf that is the next
-- to be taken. All else is as it was.
pub record SplitsAt (old new : Leaves) (key : Key) (need : ℕ) : Type 0 where
  pub at : StandsAt old key
  pub leaf : ℕ
  pub low : Key
  pub left : List VersionedRows
  pub right : List VersionedRows
  pub windows : IsSmallestWindow (Fits (counts_of at.part.segments) need) at.segment None
  pub free : old.free ≡ new.free ++ leaf ∷ []
  pub splits : Splits at.part.segments left right low
  pub now : new ≡ record old {
    parts = at.front ++ record at.part { segments = left } ∷ record { leaf = leaf; segments = right } ∷ at.back;
    free = new.free;
  }

-- what makes room for so many rows in the key's cell
abbrev pub MakesRoom : Leaves → Leaves → Key → ℕ → Type 0
MakesRoom old new key need = SpreadsRound old new key need ⊎ SplitsAt old new key need
